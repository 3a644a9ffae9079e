-- What code with a call of a function of the C library performs: the operation of a script. Own.
use Rattle.std.specs.Prelude.{◌≡◌, ◌≢◌, ℕ, ℤ, [], ◌∷◌, IsTrue}
use Rattle.std.specs.List.{AllByRecursion}
use Rattle.clif_types.specs.Signature.{SignatureShape}
use Rattle.clif_types.specs.Types.{bits_of}
use Rattle.clif_types.specs.declared.libcall.LibCall.{LibCall}
use Rattle.clif_types.specs.declared.libcall.LibCall.TheVariants.{Memcpy, Memmove, Memset, Memcmp}
use Rattle.clif_types.specs.declared.types.«Type».{«Type»}
use Rattle.clif_meaning.specs.ByteOperation.{CallLibrary, CompareBytes, CompareShape, Copy, CopyShape, Fill, FillShape}
use Rattle.clif_meaning.specs.Instruction.{Bytes}
use Rattle.clif_meaning.specs.Library.{pointer_of}
use Rattle.clif_meaning.specs.Name.{Name}
use Rattle.clif_meaning.specs.Premises.{HasLibrarySignature}
use Rattle.clif_expansion.specs.Code.{NameTypes, Performs}
use Rattle.clif_expansion.specs.Reading.{Generated, IsReadAs, Reading}
use Rattle.clif_expansion.specs.ScriptCall.{can_emit}
use Rattle.clif_helper_calls.specs.Codes.{doing}
use Rattle.clif_helper_calls.specs.LibraryCodes.{IsConstant, call_code, compare_call_code, copy_call_code, copying_function, fill_call_code, i8, set_code}

-- the signature is that of the function, with pointers of this width
abbrev pub HasSignature : (pointer_width : ℕ) → LibCall → SignatureShape → Type 0
HasSignature pointer_width callee signature = HasLibrarySignature (pointer_of pointer_width) (record { callee = callee; signature = signature })

-- three names that are read as the script's
pub record ReadsThree (reading : Reading) (first second third given_first given_second given_third : Name) : Type 0 where
  pub first_read : IsReadAs reading first given_first
  pub second_read : IsReadAs reading second given_second
  pub third_read : IsReadAs reading third given_third

-- two names that are read as the script's
pub record ReadsTwo (reading : Reading) (first second given_first given_second : Name) : Type 0 where
  pub first_read : IsReadAs reading first given_first
  pub second_read : IsReadAs reading second given_second

-- Calls of a function with a size that is a value.
pub record CallsArePerformed : Type 0 where
  pub copies : (pointer_width : ℕ) (reading : Reading) (types : NameTypes) (pointer : «Type») (signature : SignatureShape) (place : ℕ)
      (target source size given_target given_source given_size answer : Name)
      → bits_of pointer ≡ pointer_width → HasSignature pointer_width Memcpy signature
      → ReadsThree reading target source size given_target given_source given_size → reading answer ≡ Generated
      → Performs pointer_width reading types (call_code Memcpy signature place target source size answer)
      (doing (Bytes (CallLibrary Memcpy)) pointer (given_target ∷ given_source ∷ given_size ∷ [])) []
  pub moves : (pointer_width : ℕ) (reading : Reading) (types : NameTypes) (pointer : «Type») (signature : SignatureShape) (place : ℕ)
      (target source size given_target given_source given_size answer : Name)
      → bits_of pointer ≡ pointer_width → HasSignature pointer_width Memmove signature
      → ReadsThree reading target source size given_target given_source given_size → reading answer ≡ Generated
      → Performs pointer_width reading types (call_code Memmove signature place target source size answer)
      (doing (Bytes (CallLibrary Memmove)) pointer (given_target ∷ given_source ∷ given_size ∷ [])) []
  pub compares : (pointer_width : ℕ) (reading : Reading) (types : NameTypes) (pointer : «Type») (signature : SignatureShape) (place : ℕ)
      (left right size given_left given_right given_size answer given_answer : Name)
      → bits_of pointer ≡ pointer_width → HasSignature pointer_width Memcmp signature
      → ReadsThree reading left right size given_left given_right given_size → IsReadAs reading answer given_answer
      → Performs pointer_width reading types (call_code Memcmp signature place left right size answer)
      (doing (Bytes (CallLibrary Memcmp)) pointer (given_left ∷ given_right ∷ given_size ∷ [])) (given_answer ∷ [])
  pub sets : (pointer_width : ℕ) (reading : Reading) (types : NameTypes) (pointer : «Type») (signature : SignatureShape) (place : ℕ)
      (target byte size given_target given_byte given_size wide answer : Name)
      → bits_of pointer ≡ pointer_width → HasSignature pointer_width Memset signature
      → ReadsThree reading target byte size given_target given_byte given_size → reading wide ≡ Generated → reading answer ≡ Generated
      → Performs pointer_width reading types (set_code signature place target byte size wide answer)
      (doing (Bytes (CallLibrary Memset)) pointer (given_target ∷ given_byte ∷ given_size ∷ [])) []

-- Calls with a known size.
pub record KnownCallsArePerformed : Type 0 where
  pub copies : (pointer_width : ℕ) (reading : Reading) (types : NameTypes) (pointer : «Type») (signature : SignatureShape) (copy : CopyShape) (number : ℤ) (place : ℕ)
      (target source given_target given_source size answer : Name)
      → bits_of pointer ≡ pointer_width → HasSignature pointer_width (copying_function copy.no_overlap) signature → IsConstant pointer number copy.size
      → ReadsTwo reading target source given_target given_source → reading size ≡ Generated → reading answer ≡ Generated
      → Performs pointer_width reading types (copy_call_code copy.no_overlap signature pointer number place target source size answer)
      (doing (Bytes (Copy copy)) pointer (given_target ∷ given_source ∷ [])) []
  pub compares : (pointer_width : ℕ) (reading : Reading) (types : NameTypes) (pointer : «Type») (signature : SignatureShape) (compare : CompareShape) (number : ℤ) (place : ℕ)
      (left right given_left given_right size answer zero result given_result : Name)
      → bits_of pointer ≡ pointer_width → IsTrue (can_emit (Bytes (CompareBytes compare)) pointer)
      → HasSignature pointer_width Memcmp signature → IsConstant pointer number compare.size
      → ReadsTwo reading left right given_left given_right → reading size ≡ Generated → reading answer ≡ Generated → reading zero ≡ Generated
      → answer ≢ zero → IsReadAs reading result given_result
      → Performs pointer_width reading types (compare_call_code compare.condition signature pointer number place left right size answer zero result)
      (doing (Bytes (CompareBytes compare)) pointer (given_left ∷ given_right ∷ [])) (given_result ∷ [])
  pub fills : (pointer_width : ℕ) (reading : Reading) (types : NameTypes) (pointer : «Type») (signature : SignatureShape) (fill : FillShape) (filling number : ℤ) (place : ℕ)
      (target given_target byte size wide answer : Name)
      → bits_of pointer ≡ pointer_width → HasSignature pointer_width Memset signature → IsConstant i8 filling fill.byte → IsConstant pointer number fill.size
      → IsReadAs reading target given_target → AllByRecursion (λ name. reading name ≡ Generated) (byte ∷ size ∷ wide ∷ answer ∷ [])
      → byte ≢ size → size ≢ wide
      → Performs pointer_width reading types (fill_call_code signature pointer filling number place target byte size wide answer)
      (doing (Bytes (Fill fill)) pointer (given_target ∷ [])) []
