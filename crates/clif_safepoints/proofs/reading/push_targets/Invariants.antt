use Rattle.std.proofs.Common.{◌≡◌, ◌++◌, take}
use Rattle.clif_instructions.specs.Edges.{targets}
use Rattle.clif_safepoints.proofs.reading.push_targets.Given as goal

abbrev pub invariant-loop-edge : goal.invariant-loop-edge
invariant-loop-edge l = l.blocks ≡ l.initial.blocks ++ targets (take l.edge-index l.edges)
