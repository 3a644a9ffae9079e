use Rattle.std.proofs.Common.{ℕ}
use Rattle.std.specs.Prelude.{Contains}
use Rattle.clif_spiller.specs.Plans.{MayBeSpilled}
use Rattle.benches.proofs.marking.all_values.Given as goal

abbrev pub invariant-loop-number : goal.invariant-loop-number
invariant-loop-number l = (v : ℕ) → Contains l.values v → MayBeSpilled l.func v
