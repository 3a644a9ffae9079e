-- The worked examples.
use Rattle.std.specs.Prelude.{◌≡◌, ℤ, pos, negsuc, Bool, false, true, List, ◌∷◌}
use Rattle.std.proofs.Common.{arith, ap, refl}
use lib.Count.{count_trailing_zeros}
use Rattle.clif_access_plans.specs.Constants.{RepeatsByte}
use Rattle.clif_meaning.specs.Instruction.{Instruction, Operation, Load}
use Rattle.clif_meaning.specs.Name.{Name}
use Rattle.clif_helper_calls.specs.CodeExamples.{CodeExamples, copy_of_twelve, i16, i32, i8, no_flags, stored_before_next_load}
use Rattle.clif_helper_calls.specs.Performing.{HasAccesses}
use Rattle.clif_helper_calls.specs.PieceStanding.{copy_instructions}

abbrev loads : Operation → Bool
loads (Load flags offset) = true
loads operation = false

abbrev loads_second : List (Instruction Name Name) → Bool
loads_second (first ∷ second ∷ instructions) = loads second.operation
loads_second instructions = false

differ : false ≡ true → ⊥
differ e = let no_way : ⊥ = cc in no_way

in_turns : (target source : Name) → stored_before_next_load no_flags target source ≡ copy_instructions (copy_of_twelve 1 1) i32 target source 2 3 → ⊥
unfolding count_trailing_zeros
in_turns target source e = differ (ap loads_second e)

one_short : HasAccesses i32 12 2 → ⊥
unfolding count_trailing_zeros
one_short accesses = let many : 2 ≡ 3 = accesses.many in omega (arith, many)

too_narrow : HasAccesses i16 12 6 → ⊥
unfolding count_trailing_zeros
too_narrow accesses = let many : 6 ≡ 3 = accesses.many in omega (arith, many)

five : HasAccesses i8 5 5 → ⊥
unfolding count_trailing_zeros
five accesses = differ accesses.few

repeated_too_few : RepeatsByte i16 0xab (pos 0xab) → ⊥
repeated_too_few repeats = let number : 0xab ≡ 0xabab = repeats.repeats in omega (arith, number)

abbrev is_pos : ℤ → Bool
is_pos (pos n) = true
is_pos (negsuc n) = false

unsigned : RepeatsByte i16 0xab (pos 0xabab) → ⊥
unsigned repeats = differ (ap is_pos repeats.signed)

pub code_examples : CodeExamples
unfolding count_trailing_zeros
code_examples = record {
  copy = λ target source. refl;
  aligned_copy = λ target source. refl;
  one_side = λ target source. refl;
  in_turns = in_turns;
  fill = λ target. refl;
  fill_unaligned = λ target. refl;
  three = record { few = refl; access = record { bits = refl; exponent = 2; is_power = refl; few = omega (arith) }; many = refl };
  one_short = one_short;
  too_narrow = too_narrow;
  five = five;
  constant = record { repeats = refl; signed = refl };
  repeated_too_few = repeated_too_few;
  unsigned = unsigned;
}
