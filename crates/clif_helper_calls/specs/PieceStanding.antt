-- Loads of all pieces and then stores of them stand for the copy that is emitted, and a constant and stores of it for the fill. Own.
use Rattle.std.specs.Prelude.{◌≡◌, ◌<◌, ℕ, zero, suc, ◌*◌, ℤ, pos, List, [], ◌∷◌, ◌++◌, IsTrue, replicate}
use Rattle.clif_types.specs.MemFlags.{MemFlagsShape}
use Rattle.clif_types.specs.Types.{is_int}
use Rattle.clif_types.specs.declared.types.«Type».{«Type»}
use Rattle.clif_access_plans.specs.Constants.{RepeatsByte}
use Rattle.clif_meaning.specs.ByteOperation.{CopyShape, FillShape, access_size}
use Rattle.clif_meaning.specs.Instruction.{Iconst, Instruction, Load, Store}
use Rattle.clif_meaning.specs.Name.{Name, answer_of}
use Rattle.clif_expansion.specs.Constants.{computing}
use Rattle.clif_expansion.specs.Emission.{AreGenerated}
use Rattle.clif_expansion.specs.Reading.{IsReadAs}
use Rattle.clif_helper_calls.specs.Codes.{copy_flags, doing, fill_flags}
use Rattle.clif_helper_calls.specs.FillStanding.{fill_emission}
use Rattle.clif_helper_calls.specs.KnownStanding.{copy_emission}
use Rattle.clif_helper_calls.specs.Lines.{Line, LineStands, all_but_last, last_of}
use Rattle.clif_helper_calls.specs.Performing.{HasAccesses}
use Rattle.clif_helper_calls.specs.PerformingCalls.{ReadsTwo}

-- the names of so many answers, from a place on
abbrev pub piece_names : (place count : ℕ) → List Name
piece_names place zero = []
piece_names place (suc count) = answer_of place 1 ∷ piece_names (suc place) count

-- loads of so many pieces, from the one with this number on
abbrev pub load_instructions : MemFlagsShape → «Type» → (bytes : ℕ) (source : Name) (number count : ℕ) → List (Instruction Name Name)
load_instructions flags ty bytes source number zero = []
load_instructions flags ty bytes source number (suc count) =
    doing (Load flags (pos (number * bytes))) ty (source ∷ []) ∷ load_instructions flags ty bytes source (suc number) count

-- stores of these names
abbrev pub store_instructions : MemFlagsShape → «Type» → (bytes : ℕ) (target : Name) (number : ℕ) → List Name → List (Instruction Name Name)
store_instructions flags ty bytes target number [] = []
store_instructions flags ty bytes target number (name ∷ names) =
    doing (Store flags (pos (number * bytes))) ty (name ∷ target ∷ []) ∷ store_instructions flags ty bytes target (suc number) names

-- all instructions of a copy, and of a fill
abbrev pub copy_instructions : CopyShape → «Type» → (target source : Name) (place count : ℕ) → List (Instruction Name Name)
copy_instructions copy ty target source place count =
    load_instructions (copy_flags copy) ty (access_size copy.size) source 0 count
    ++ store_instructions (copy_flags copy) ty (access_size copy.size) target 0 (piece_names place count)

abbrev pub fill_instructions : FillShape → «Type» → ℤ → (target : Name) (place count : ℕ) → List (Instruction Name Name)
fill_instructions fill ty number target place count =
    computing (Iconst number) ty [] ∷ store_instructions (fill_flags fill) ty (access_size fill.size) target 0 (replicate count (answer_of place 1))

-- the lines, in which no more than the operands is named; the instruction beside the code is none of theirs
abbrev pub none_of_it : «Type» → Instruction Name Name
none_of_it ty = computing (Iconst (pos 0)) ty []

abbrev pub copied_line : CopyShape → (pointer ty : «Type») (count : ℕ) (target source given_target given_source : Name) → Line
copied_line copy pointer ty count target source given_target given_source = record {
  how = AreGenerated;
  code = λ place. all_but_last (copy_instructions copy ty target source place count);
  last = λ place. last_of (none_of_it ty) (copy_instructions copy ty target source place count);
  emission = copy_emission copy pointer given_target given_source;
}

abbrev pub filled_line : FillShape → (pointer ty : «Type») → ℤ → (count : ℕ) (target given_target : Name) → Line
filled_line fill pointer ty number count target given_target = record {
  how = AreGenerated;
  code = λ place. all_but_last (fill_instructions fill ty number target place count);
  last = λ place. last_of (none_of_it ty) (fill_instructions fill ty number target place count);
  emission = fill_emission fill pointer given_target;
}

pub record PiecesStand : Type 0 where
  pub copies : (pointer ty : «Type») (copy : CopyShape) (count : ℕ) (target source given_target given_source : Name)
      → IsTrue (is_int ty) → HasAccesses ty copy.size count → 0 < count
      → LineStands pointer (copied_line copy pointer ty count target source given_target given_source) (λ reading. ReadsTwo reading target source given_target given_source)
  pub fills : (pointer ty : «Type») (fill : FillShape) (number : ℤ) (count : ℕ) (target given_target : Name)
      → IsTrue (is_int ty) → HasAccesses ty fill.size count → RepeatsByte ty fill.byte number
      → LineStands pointer (filled_line fill pointer ty number count target given_target) (λ reading. IsReadAs reading target given_target)
  -- of such instructions, all but the last one and the last one are all
  pub all_copies : (copy : CopyShape) (ty : «Type») (target source : Name) (place count : ℕ) → 0 < count
      → all_but_last (copy_instructions copy ty target source place count) ++ last_of (none_of_it ty) (copy_instructions copy ty target source place count) ∷ []
      ≡ copy_instructions copy ty target source place count
  pub all_fills : (fill : FillShape) (ty : «Type») (number : ℤ) (target : Name) (place count : ℕ)
      → all_but_last (fill_instructions fill ty number target place count) ++ last_of (none_of_it ty) (fill_instructions fill ty number target place count) ∷ []
      ≡ fill_instructions fill ty number target place count
