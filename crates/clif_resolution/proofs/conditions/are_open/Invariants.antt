use Rattle.std.proofs.Common.{◌≡◌, take}
use Rattle.std.specs.Prelude.{true}
use Rattle.std.specs.List.{list_all}
use Rattle.clif_resolution.specs.Conditions.{can_seal}
use Rattle.clif_resolution.proofs.conditions.are_open.Given as goal

abbrev pub invariant-loop-edge : goal.invariant-loop-edge
invariant-loop-edge g l = list_all (λ edge. can_seal l.builder edge.block) (take l.edge-index l.edges) ≡ true
