use Rattle.std.proofs.Common.{◌==◌, ◌++◌, length, map, take}
use Rattle.std.specs.List.{filter}
use Rattle.clif_safepoints.specs.Graph.{leads_to}
use Rattle.clif_safepoints.specs.Tables.{AreRows}
use Rattle.clif_safepoints.proofs.graph.add_source.Given as goal

abbrev pub invariant-loop-target : goal.invariant-loop-target
invariant-loop-target l =
    AreRows (length l.initial.sources.items)
    (λ target. leads_to l.initial.sources.items target ++ map (λ x. l.block) (filter (λ x. x == target) (take l.target-index l.targets))) l.sources.items
