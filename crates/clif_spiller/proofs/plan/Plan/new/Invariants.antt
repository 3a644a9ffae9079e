use Rattle.std.proofs.Common.{◌<◌, ℕ}
use Rattle.std.specs.Prelude.{◌↔◌, Contains}
use Rattle.clif_safepoints.specs.Analysis.{found_across}
use Rattle.clif_spiller.proofs.plan.Plan.new.Given as goal

abbrev pub invariant-loop-number : goal.invariant-loop-number
invariant-loop-number l =
    (v : ℕ) → Contains l.spilled v ↔ ((inst : ℕ) × (inst < l.number) × Contains (found_across l.liveness inst) v)
