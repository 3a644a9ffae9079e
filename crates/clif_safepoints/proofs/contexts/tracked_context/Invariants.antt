use Rattle.std.proofs.Common.{◌<◌, ℕ}
use Rattle.clif_safepoints.specs.Contexts.{HasTrackedContext}
use Rattle.clif_safepoints.proofs.contexts.tracked_context.Given as goal

abbrev pub invariant-loop-number : goal.invariant-loop-number
invariant-loop-number l = (i : ℕ) → i < l.number → HasTrackedContext l.func l.recorded i → ⊥
