-- Calls with a constant size stand for the copy or the comparison that is emitted. Own.
use Rattle.std.specs.Prelude.{ℕ, suc, ℤ, pos, List, [], ◌∷◌, length}
use Rattle.clif_types.specs.Signature.{SignatureShape}
use Rattle.clif_types.specs.Types.{bits_of}
use Rattle.clif_types.specs.declared.libcall.LibCall.TheVariants.{Memcmp}
use Rattle.clif_types.specs.declared.types.«Type».{«Type»}
use Rattle.clif_meaning.specs.ByteOperation.{CompareBytes, CompareShape, Copy, CopyShape}
use Rattle.clif_meaning.specs.Instruction.{Bytes, Compare, Iconst, Instruction}
use Rattle.clif_meaning.specs.Ledger.{ledger_after}
use Rattle.clif_meaning.specs.Name.{Name, answer_of}
use Rattle.clif_meaning.specs.Request.{Script}
use Rattle.clif_byte_laws.specs.Comparing.{sign_condition}
use Rattle.clif_expansion.specs.Constants.{computing}
use Rattle.clif_expansion.specs.Emission.{AreGenerated, AreGiven}
use Rattle.clif_helper_calls.specs.Codes.{doing}
use Rattle.clif_helper_calls.specs.LibraryCodes.{IsConstant, calling, copying_function, i32}
use Rattle.clif_helper_calls.specs.Lines.{Line, LineStands}
use Rattle.clif_helper_calls.specs.PerformingCalls.{HasSignature, ReadsTwo}

-- a copy: its size, and the call
abbrev pub copy_first : «Type» → ℤ → List (Instruction Name Name)
copy_first pointer number = computing (Iconst number) pointer [] ∷ []

abbrev pub copy_last : CopyShape → SignatureShape → (place : ℕ) (target source : Name) → Instruction Name Name
copy_last copy signature place target source = calling (copying_function copy.no_overlap) signature target source (answer_of place 1)

-- a comparison: its size, the call, zero, and the comparison with it
abbrev pub compare_first : SignatureShape → «Type» → ℤ → (place : ℕ) (left right : Name) → List (Instruction Name Name)
compare_first signature pointer number place left right =
    computing (Iconst number) pointer [] ∷ calling Memcmp signature left right (answer_of place 1) ∷ computing (Iconst (pos 0)) i32 [] ∷ []

abbrev pub compare_last : CompareShape → (place : ℕ) → Instruction Name Name
compare_last compare place = computing (Compare (sign_condition compare.condition)) i32 (answer_of (suc place) 1 ∷ answer_of (suc (suc place)) 1 ∷ [])

-- the operations of the script
abbrev pub copy_emission : CopyShape → «Type» → (target source : Name) → Instruction Name Name
copy_emission copy pointer target source = doing (Bytes (Copy copy)) pointer (target ∷ source ∷ [])

abbrev pub compare_emission : CompareShape → «Type» → (left right : Name) → Instruction Name Name
compare_emission compare pointer left right = doing (Bytes (CompareBytes compare)) pointer (left ∷ right ∷ [])

-- the place of the next call
abbrev pub next_place : Script → ℕ
next_place plain = length (ledger_after plain).answers

-- the lines, with a size that is this number
abbrev pub copy_line : CopyShape → SignatureShape → «Type» → (number : ℤ) (target source given_target given_source : Name) → Line
copy_line copy signature pointer number target source given_target given_source = record {
  how = AreGenerated;
  code = λ place. copy_first pointer number;
  last = λ place. copy_last copy signature place target source;
  emission = copy_emission copy pointer given_target given_source;
}

abbrev pub compare_line : CompareShape → SignatureShape → «Type» → (number : ℤ) (left right given_left given_right : Name) → Line
compare_line compare signature pointer number left right given_left given_right = record {
  how = AreGiven;
  code = λ place. compare_first signature pointer number place left right;
  last = λ place. compare_last compare place;
  emission = compare_emission compare pointer given_left given_right;
}

pub record KnownCallsStand : Type 0 where
  pub copies : (pointer : «Type») (signature : SignatureShape) (copy : CopyShape) (number : ℤ) (target source given_target given_source : Name)
      → HasSignature (bits_of pointer) (copying_function copy.no_overlap) signature → IsConstant pointer number copy.size
      → LineStands pointer (copy_line copy signature pointer number target source given_target given_source) (λ reading. ReadsTwo reading target source given_target given_source)
  pub compares : (pointer : «Type») (signature : SignatureShape) (compare : CompareShape) (number : ℤ) (left right given_left given_right : Name)
      → HasSignature (bits_of pointer) Memcmp signature → IsConstant pointer number compare.size
      → LineStands pointer (compare_line compare signature pointer number left right given_left given_right) (λ reading. ReadsTwo reading left right given_left given_right)
