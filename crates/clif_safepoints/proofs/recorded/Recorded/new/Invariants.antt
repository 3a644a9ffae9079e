use Rattle.std.proofs.Common.{◌≡◌, ◌++◌, length}
use Rattle.clif_safepoints.specs.Numbered.{numbered}
use Rattle.clif_safepoints.proofs.recorded.Recorded.new.Given as goal

abbrev pub invariant-loop-value : goal.invariant-loop-value
invariant-loop-value l = l.values.items ++ numbered l.func l.members ≡ numbered l.func l.initial.members

abbrev pub decreases-loop-value : goal.decreases-loop-value
decreases-loop-value l = length l.members
