-- The code of helpers that call a function of the C library, by its name and a signature that was imported. A size that is known is
-- a constant; the byte of a fill is widened; a comparison compares the number that is answered with zero. From the documentation of
-- Cranelift's memory helpers.
use Rattle.std.specs.Prelude.{◌≡◌, ℕ, suc, ℤ, pos, if◌then◌else◌, Bool, List, [], ◌∷◌}
use Rattle.clif_opcodes.specs.declared.opcodes.ConvertOpcode.TheVariants.{Uextend}
use Rattle.clif_types.specs.Signature.{SignatureShape}
use Rattle.clif_types.specs.Types.{bits_of}
use Rattle.clif_types.specs.declared.condcodes.IntCC.{IntCC}
use Rattle.clif_types.specs.declared.extname.ExternalName.TheVariants as name
use Rattle.clif_types.specs.declared.libcall.LibCall.{LibCall}
use Rattle.clif_types.specs.declared.libcall.LibCall.TheVariants.{Memcpy, Memmove, Memset, Memcmp}
use Rattle.clif_types.specs.declared.types.LaneType.TheVariants as lane
use Rattle.clif_types.specs.declared.types.«Type».{«Type»}
use Rattle.clif_types.specs.declared.types.«Type».TheVariants as type
use Rattle.clif_meaning.specs.Bits.{wrapped}
use Rattle.clif_meaning.specs.Instruction.{Call, Compare, Convert, Iconst, Instruction}
use Rattle.clif_meaning.specs.Name.{Name}
use Rattle.clif_meaning.specs.Program.{Item, Instruct}
use Rattle.clif_byte_laws.specs.Comparing.{sign_condition}
use Rattle.clif_expansion.specs.Constants.{computing}
use Rattle.clif_helper_calls.specs.Codes.{doing}

abbrev pub i8 : «Type»
i8 = type.Lane lane.I8

abbrev pub i32 : «Type»
i32 = type.Lane lane.I32

-- the call of a function by its name
abbrev pub calling : LibCall → SignatureShape → (first second size : Name) → Instruction Name Name
calling callee signature first second size = doing (Call (name.LibCall callee) signature) type.Invalid (first ∷ second ∷ size ∷ [])

-- a call alone, with an answer
abbrev pub call_code : LibCall → SignatureShape → (place : ℕ) (first second size answer : Name) → List Item
call_code callee signature place first second size answer = Instruct place (calling callee signature first second size) (answer ∷ []) ∷ []

-- a call of `Memset`, with a byte that is widened
abbrev pub set_code : SignatureShape → (place : ℕ) (target byte size wide answer : Name) → List Item
set_code signature place target byte size wide answer =
    Instruct place (computing (Convert Uextend) i32 (byte ∷ [])) (wide ∷ []) ∷ call_code Memset signature (suc place) target wide size answer

-- which function copies
abbrev pub copying_function : (no_overlap : Bool) → LibCall
copying_function no_overlap = if no_overlap then Memcpy else Memmove

-- a copy of a known size
abbrev pub copy_call_code : (no_overlap : Bool) → SignatureShape → «Type» → (number : ℤ) (place : ℕ) (target source size answer : Name) → List Item
copy_call_code no_overlap signature pointer number place target source size answer =
    Instruct place (computing (Iconst number) pointer []) (size ∷ [])
    ∷ call_code (copying_function no_overlap) signature (suc place) target source size answer

-- a fill of a known size with a known byte
abbrev pub fill_call_code : SignatureShape → «Type» → (filling number : ℤ) (place : ℕ) (target byte size wide answer : Name) → List Item
fill_call_code signature pointer filling number place target byte size wide answer =
    Instruct place (computing (Iconst filling) i8 []) (byte ∷ [])
    ∷ Instruct (suc place) (computing (Iconst number) pointer []) (size ∷ [])
    ∷ set_code signature (suc (suc place)) target byte size wide answer

-- a comparison of a known size
abbrev pub compare_call_code : IntCC → SignatureShape → «Type» → (number : ℤ) (place : ℕ) (left right size answer zero result : Name) → List Item
compare_call_code condition signature pointer number place left right size answer zero result =
    Instruct place (computing (Iconst number) pointer []) (size ∷ [])
    ∷ Instruct (suc place) (calling Memcmp signature left right size) (answer ∷ [])
    ∷ Instruct (suc (suc place)) (computing (Iconst (pos 0)) i32 []) (zero ∷ [])
    ∷ Instruct (suc (suc (suc place))) (computing (Compare (sign_condition condition)) i32 (answer ∷ zero ∷ [])) (result ∷ []) ∷ []

-- the constant is this number, at the type
abbrev pub IsConstant : «Type» → (number : ℤ) (size : ℕ) → Type 0
IsConstant ty number size = wrapped (bits_of ty) number ≡ size
