use Rattle.std.proofs.Common.{◌⊎◌, ℕ, length}
use Rattle.std.specs.Prelude.{Contains}
use Rattle.clif_spiller.specs.Plans.{MayBeSpilled}
use Rattle.clif_safepoints_tests.proofs.fits.all_fit.Given as goal

abbrev pub invariant-loop-value : goal.invariant-loop-value
invariant-loop-value l = (v : ℕ) → Contains l.initial.members v → MayBeSpilled l.func v ⊎ Contains l.members v

abbrev pub decreases-loop-value : goal.decreases-loop-value
decreases-loop-value l = length l.members
