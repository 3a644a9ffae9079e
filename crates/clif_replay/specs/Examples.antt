-- Worked examples of what the names of an answer lead to, and of the plain calls of an emission. Own.
use Rattle.std.specs.Prelude.{◌≡◌, ℕ, suc, ◌+◌, pos, List, [], ◌∷◌, length}
use Rattle.clif_types.specs.declared.types.«Type».{«Type»}
use Rattle.clif_opcodes.specs.declared.opcodes.BinaryOpcode.TheVariants.{Iadd}
use Rattle.clif_ir.specs.Body.{empty_function}
use Rattle.clif_meaning.specs.Examples.{i32, i128}
use Rattle.clif_meaning.specs.Instruction.{Binary, Iconst}
use Rattle.clif_meaning.specs.Ledger.{Answered, ABlock, AValue, AnInstruction, Ledger, empty_ledger}
use Rattle.clif_meaning.specs.Name as named
use Rattle.clif_meaning.specs.Request.{Script}
use Rattle.clif_expansion.specs.Constants.{computing}
use Rattle.clif_expansion.specs.Emission.{building}
use Rattle.clif_calls.specs.declared.immediate.ImmediateCall.{ImmediateCall}
use Rattle.clif_calls.specs.declared.immediate.ImmediateCall.TheVariants as immediate
use Rattle.clif_resolution.specs.declared.answers.Answer.TheVariants as answer
use Rattle.clif_replay.specs.Emits.{plain_calls_under}
use Rattle.clif_replay.specs.Limits.{EmissionMeetsFullTable}
use Rattle.clif_replay.specs.Ready.{LeadsTo}
use Rattle.clif_replay.specs.Requests.{Naming, name_of}

-- answers are known as those of the call at this place, the first one as its second
abbrev pub behind_number : ℕ → Naming
behind_number other name = named.answer_of other (suc name.answer)

-- an instruction with one result, and its number 5 and that of the result, 7
abbrev pub one_result : List Answered
one_result = AnInstruction ∷ AValue i32 ∷ []

abbrev pub its_numbers : List ℕ
its_numbers = 5 ∷ 7 ∷ []

-- behind both answers of the call at this place
abbrev pub behind_both : ℕ → Naming
behind_both other name = named.answer_of other (2 + name.answer)

pub record NamingExamples : Type 0 where
  -- a list's call that was asked as it is
  pub block : LeadsTo name_of 3 3 (answer.Block 0) (ABlock ∷ []) (0 ∷ [])
  pub instruction : LeadsTo name_of 2 2 (answer.Inst 5) one_result its_numbers
  -- the first call of a list, for which three were asked: its answer is the last one's result
  pub results : LeadsTo (behind_number 2) 0 2 (answer.Values 7 1) one_result its_numbers
  -- a call that answers nothing, for which three were asked
  pub nothing : LeadsTo (behind_both 2) 0 2 answer.Nothing one_result its_numbers
  -- wrong ones: another value, the instruction itself, the result under the instruction's name, and nothing under the result's
  pub another_value : LeadsTo (behind_number 2) 0 2 (answer.Values 8 1) one_result its_numbers → ⊥
  pub itself : LeadsTo (behind_number 2) 0 2 (answer.Inst 5) one_result its_numbers → ⊥
  pub not_behind : LeadsTo name_of 2 2 (answer.Values 7 1) one_result its_numbers → ⊥
  pub something : LeadsTo (behind_number 2) 0 2 answer.Nothing one_result its_numbers → ⊥

-- the sum of the first answer and 7, and a ledger in which that answer is a value of this type
abbrev pub seven_more : ImmediateCall
seven_more = immediate.IaddImmS (record { place = 0; answer = 0 }) (pos 7)

abbrev pub one_value : «Type» → Ledger
one_value ty = record empty_ledger { answers = (AValue ty ∷ []) ∷ [] }

-- a constant, and the sum of the first answer and what the constant answered with this number
abbrev pub adding : ℕ → Script
adding index = building (computing (Iconst (pos 7)) i32 []) ∷ building (computing (Binary Iadd) i32 (named.answer_of 0 0 ∷ named.answer_of 4 index ∷ [])) ∷ []

pub record EmissionExamples : Type 0 where
  pub sum : plain_calls_under name_of (one_value i32) 4 seven_more ≡ adding 1
  -- at 128 bits the constant's sign is repeated by an instruction more
  pub wide : length (plain_calls_under name_of (one_value i128) 4 seven_more) ≡ 3
  -- wrong ones: the sum with the constant's instruction, and a function without a full table
  pub on_instruction : plain_calls_under name_of (one_value i32) 4 seven_more ≡ adding 0 → ⊥
  pub not_full : EmissionMeetsFullTable empty_function → ⊥
