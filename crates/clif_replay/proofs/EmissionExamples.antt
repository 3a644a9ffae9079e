-- The worked examples of emissions.
use Rattle.std.proofs.Common.{◌≡◌, ℕ, List, ◌∷◌, refl, ap, arith, inl, inr}
use Rattle.clif_ir.specs.Body.{empty_function}
use Rattle.clif_meaning.specs.Name.{Name}
use Rattle.clif_meaning.specs.Request.{Build, Request, Script}
use Rattle.clif_replay.specs.Examples.{EmissionExamples}
use Rattle.clif_replay.specs.Limits.{EmissionMeetsFullTable}

-- the number of the second operand of the second call
abbrev second : List Name → ℕ
second (x ∷ y ∷ names) = y.index
second names = 0

abbrev operand-of : Request → ℕ
operand-of (Build entries instruction) = second instruction.operands
operand-of request = 0

abbrev constant-index : Script → ℕ
constant-index (first ∷ last ∷ script) = operand-of last
constant-index script = 0

-- nothing was made
nothing-full : EmissionMeetsFullTable empty_function → ⊥
nothing-full (made, few, inl insts) = omega (arith, few, insts)
nothing-full (made, few, inr values) = omega (arith, few, values)

pub examples : EmissionExamples
examples = record {
  sum = refl;
  wide = refl;
  on_instruction = λ is. let same : ◌≡◌ {A = ℕ} 1 0 = ap constant-index is in omega (arith, same);
  not_full = nothing-full;
}
