-- What code of copies, fills and comparisons performs: the operation of a script. Own.
use Rattle.std.specs.Prelude.{◌≡◌, ◌≢◌, ◌≤◌, ◌*◌, ◌^◌, ◌/◌, ℕ, ℤ, true, List, [], ◌∷◌, length, IsTrue}
use Rattle.std.specs.List.{AllByRecursion}
use Rattle.clif_types.specs.Types.{bits_of}
use Rattle.clif_types.specs.declared.types.«Type».{«Type»}
use Rattle.clif_access_plans.specs.Constants.{RepeatsByte}
use Rattle.clif_access_plans.specs.Plans.{IsAccess}
use Rattle.clif_meaning.specs.ByteOperation.{CompareBytes, CompareShape, Copy, CopyShape, Fill, FillShape, access_size, is_by_accesses, is_by_loads}
use Rattle.clif_meaning.specs.Instruction.{Bytes}
use Rattle.clif_meaning.specs.Name.{Name}
use Rattle.clif_expansion.specs.Code.{NameTypes, Performs}
use Rattle.clif_expansion.specs.Reading.{Generated, IsReadAs, Reading}
use Rattle.clif_expansion.specs.ScriptCall.{can_emit}
use Rattle.clif_helper_calls.specs.Codes.{AreDistinct, compare_code, copy_code, copy_flags, doing, fill_code, fill_flags}

-- The accesses are of this integer type, and there are as many as the size needs.
pub record HasAccesses (ty : «Type») (size count : ℕ) : Type 0 where
  pub few : is_by_accesses size ≡ true
  pub access : IsAccess ty (access_size size)
  pub many : count ≡ size / access_size size

-- Names of a copy: the addresses are read as the script's and have their types; the others were generated, each once.
pub record NamesCopy (reading : Reading) (types : NameTypes) (target source given_target given_source : Name) (names : List Name) : Type 0 where
  pub target_read : IsReadAs reading target given_target
  pub source_read : IsReadAs reading source given_source
  pub target_typed : types.plain target ≡ types.script given_target
  pub source_typed : types.plain source ≡ types.script given_source
  pub generated : AllByRecursion (λ name. reading name ≡ Generated) names
  pub distinct : AreDistinct names

pub record NamesFill (reading : Reading) (types : NameTypes) (target given_target constant : Name) : Type 0 where
  pub target_read : IsReadAs reading target given_target
  pub target_typed : types.plain target ≡ types.script given_target
  pub generated : reading constant ≡ Generated

-- Such code performs the copy, or the fill, of a script.
pub record PiecesArePerformed : Type 0 where
  pub copies : (pointer_width : ℕ) (reading : Reading) (types : NameTypes) (pointer ty : «Type») (copy : CopyShape) (place : ℕ) (names : List Name)
      (target source given_target given_source : Name)
      → bits_of pointer ≡ pointer_width → IsTrue (can_emit (Bytes (Copy copy)) pointer) → HasAccesses ty copy.size (length names)
      → NamesCopy reading types target source given_target given_source names
      → Performs pointer_width reading types (copy_code (copy_flags copy) ty (access_size copy.size) target source place names)
      (doing (Bytes (Copy copy)) pointer (given_target ∷ given_source ∷ [])) []
  pub fills : (pointer_width : ℕ) (reading : Reading) (types : NameTypes) (pointer ty : «Type») (fill : FillShape) (place : ℕ) (number : ℤ) (count : ℕ)
      (target given_target constant : Name)
      → bits_of pointer ≡ pointer_width → IsTrue (can_emit (Bytes (Fill fill)) pointer) → HasAccesses ty fill.size count → RepeatsByte ty fill.byte number
      → NamesFill reading types target given_target constant
      → Performs pointer_width reading types (fill_code (fill_flags fill) ty (access_size fill.size) target place number constant count)
      (doing (Bytes (Fill fill)) pointer (given_target ∷ [])) []

-- A comparison's loads are of an integer type of as many bytes.
pub record HasLoads (ty : «Type») (compare : CompareShape) : Type 0 where
  pub by_loads : is_by_loads compare.condition compare.size ≡ true
  pub bits : bits_of ty ≡ 8 * compare.size
  pub exponent : ℕ
  pub is_power : compare.size ≡ 2 ^ exponent
  pub few : exponent ≤ 4

pub record NamesCompare (reading : Reading) (types : NameTypes) (left right given_left given_right one two result given_result : Name) : Type 0 where
  pub left_read : IsReadAs reading left given_left
  pub right_read : IsReadAs reading right given_right
  pub left_typed : types.plain left ≡ types.script given_left
  pub right_typed : types.plain right ≡ types.script given_right
  pub one_generated : reading one ≡ Generated
  pub two_generated : reading two ≡ Generated
  pub apart : one ≢ two
  pub result_read : IsReadAs reading result given_result

-- Two loads, and the comparison of what they give, perform the comparison of a script.
abbrev pub LoadsArePerformed : Type 0
LoadsArePerformed =
    (pointer_width : ℕ) (reading : Reading) (types : NameTypes) (pointer ty : «Type») (compare : CompareShape) (place : ℕ)
    (left right given_left given_right one two result given_result : Name)
    → IsTrue (can_emit (Bytes (CompareBytes compare)) pointer) → HasLoads ty compare
    → NamesCompare reading types left right given_left given_right one two result given_result
    → Performs pointer_width reading types (compare_code compare ty left right place one two result)
    (doing (Bytes (CompareBytes compare)) pointer (given_left ∷ given_right ∷ [])) (given_result ∷ [])
