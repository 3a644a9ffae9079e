-- Calls of `Memset` stand for the fill that is emitted, and two loads, or of no bytes a constant, for a comparison. Own.
use Rattle.std.specs.Prelude.{◌≡◌, if◌then◌else◌, ℕ, suc, ℤ, pos, List, [], ◌∷◌, IsTrue}
use Rattle.clif_opcodes.specs.declared.opcodes.ConvertOpcode.TheVariants.{Uextend}
use Rattle.std.specs.declared.cmp.Ordering.TheVariants.{Equal as SameBytes}
use Rattle.clif_types.specs.Signature.{SignatureShape}
use Rattle.clif_types.specs.declared.condcodes.IntCC.{IntCC}
use Rattle.clif_types.specs.Types.{bits_of, is_int}
use Rattle.clif_types.specs.declared.libcall.LibCall.TheVariants.{Memset}
use Rattle.clif_types.specs.declared.types.«Type».{«Type»}
use Rattle.clif_access_plans.specs.Plans.{is_aligned_load}
use Rattle.clif_meaning.specs.ByteOperation.{CompareShape, Fill, FillShape, order_meets}
use Rattle.clif_meaning.specs.Instruction.{Bytes, Compare, Convert, Iconst, Instruction, Load}
use Rattle.clif_meaning.specs.Name.{Name, answer_of}
use Rattle.clif_expansion.specs.Constants.{computing}
use Rattle.clif_expansion.specs.Emission.{AreGenerated, AreGiven}
use Rattle.clif_expansion.specs.Reading.{IsReadAs}
use Rattle.clif_helper_calls.specs.Codes.{doing, flags_where}
use Rattle.clif_helper_calls.specs.KnownStanding.{compare_emission}
use Rattle.clif_helper_calls.specs.LibraryCodes.{IsConstant, calling, i32, i8}
use Rattle.clif_helper_calls.specs.Lines.{Line, LineStands}
use Rattle.clif_helper_calls.specs.Performing.{HasLoads}
use Rattle.clif_helper_calls.specs.PerformingCalls.{HasSignature, ReadsThree, ReadsTwo}
use Rattle.clif_helper_calls.specs.Standing.{library_emission}

-- the byte widened, and the call
abbrev pub set_first : (byte : Name) → List (Instruction Name Name)
set_first byte = computing (Convert Uextend) i32 (byte ∷ []) ∷ []

abbrev pub set_last : SignatureShape → (place : ℕ) (target size : Name) → Instruction Name Name
set_last signature place target size = calling Memset signature target (answer_of place 1) size

-- a known byte and a known size, the byte widened, and the call
abbrev pub fill_first : «Type» → (filling number : ℤ) → (place : ℕ) → List (Instruction Name Name)
fill_first pointer filling number place =
    computing (Iconst filling) i8 [] ∷ computing (Iconst number) pointer [] ∷ computing (Convert Uextend) i32 (answer_of place 1 ∷ []) ∷ []

abbrev pub fill_last : SignatureShape → (place : ℕ) (target : Name) → Instruction Name Name
fill_last signature place target = calling Memset signature target (answer_of (suc (suc place)) 1) (answer_of (suc place) 1)

abbrev pub fill_emission : FillShape → «Type» → (target : Name) → Instruction Name Name
fill_emission fill pointer target = doing (Bytes (Fill fill)) pointer (target ∷ [])

-- loads of both sides, and their comparison
abbrev pub loads_first : CompareShape → «Type» → (left right : Name) → List (Instruction Name Name)
loads_first compare ty left right =
    doing (Load (flags_where compare.flags (is_aligned_load compare.condition compare.size compare.left_alignment)) (pos 0)) ty (left ∷ [])
    ∷ doing (Load (flags_where compare.flags (is_aligned_load compare.condition compare.size compare.right_alignment)) (pos 0)) ty (right ∷ []) ∷ []

abbrev pub loads_last : CompareShape → «Type» → (place : ℕ) → Instruction Name Name
loads_last compare ty place = computing (Compare compare.condition) ty (answer_of place 1 ∷ answer_of (suc place) 1 ∷ [])

-- the lines of `Memset`, with a byte and a size that are values, and with known ones
abbrev pub set_line : SignatureShape → «Type» → (target byte size given_target given_byte given_size : Name) → Line
set_line signature pointer target byte size given_target given_byte given_size = record {
  how = AreGenerated;
  code = λ place. set_first byte;
  last = λ place. set_last signature place target size;
  emission = library_emission Memset pointer given_target given_byte given_size;
}

abbrev pub fill_line : FillShape → SignatureShape → «Type» → (filling number : ℤ) (target given_target : Name) → Line
fill_line fill signature pointer filling number target given_target = record {
  how = AreGenerated;
  code = λ place. fill_first pointer filling number place;
  last = λ place. fill_last signature place target;
  emission = fill_emission fill pointer given_target;
}

-- loads of both sides, and their comparison
abbrev pub loads_line : CompareShape → (pointer ty : «Type») (left right given_left given_right : Name) → Line
loads_line compare pointer ty left right given_left given_right = record {
  how = AreGiven;
  code = λ place. loads_first compare ty left right;
  last = λ place. loads_last compare ty place;
  emission = compare_emission compare pointer given_left given_right;
}

-- a comparison of no bytes: a constant
abbrev pub told_of_none : IntCC → ℤ
told_of_none condition = if order_meets condition SameBytes then pos 1 else pos 0

abbrev pub constant_line : CompareShape → «Type» → (given_left given_right : Name) → Line
constant_line compare pointer given_left given_right = record {
  how = AreGiven;
  code = λ place. [];
  last = λ place. computing (Iconst (told_of_none compare.condition)) i8 [];
  emission = compare_emission compare pointer given_left given_right;
}

pub record FillCallsStand : Type 0 where
  pub sets : (pointer : «Type») (signature : SignatureShape) (target byte size given_target given_byte given_size : Name)
      → HasSignature (bits_of pointer) Memset signature
      → LineStands pointer (set_line signature pointer target byte size given_target given_byte given_size)
      (λ reading. ReadsThree reading target byte size given_target given_byte given_size)
  pub fills : (pointer : «Type») (signature : SignatureShape) (fill : FillShape) (filling number : ℤ) (target given_target : Name)
      → HasSignature (bits_of pointer) Memset signature → IsConstant i8 filling fill.byte → IsConstant pointer number fill.size
      → LineStands pointer (fill_line fill signature pointer filling number target given_target) (λ reading. IsReadAs reading target given_target)
  pub nothing : (pointer : «Type») (compare : CompareShape) (left right given_left given_right : Name) → compare.size ≡ 0
      → LineStands pointer (constant_line compare pointer given_left given_right) (λ reading. ReadsTwo reading left right given_left given_right)
  pub loads : (pointer ty : «Type») (compare : CompareShape) (left right given_left given_right : Name)
      → IsTrue (is_int ty) → HasLoads ty compare
      → LineStands pointer (loads_line compare pointer ty left right given_left given_right) (λ reading. ReadsTwo reading left right given_left given_right)
