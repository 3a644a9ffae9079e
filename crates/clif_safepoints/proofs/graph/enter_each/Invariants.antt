use Rattle.std.proofs.Common.{◌≡◌, ◌++◌, drop, reverse}
use Rattle.clif_safepoints.specs.Visits.{entered}
use Rattle.clif_safepoints.proofs.graph.enter_each.Given as goal

abbrev pub invariant-loop-place : goal.invariant-loop-place
invariant-loop-place l = l.visits.items ≡ l.initial.visits.items ++ entered (reverse (drop l.place l.blocks))
