-- What an item of a script does to memory by itself, and what it claims: the ranges that it may touch, and what its
-- flags, alignments and overlap promise. After the documentation of Cranelift's memory flags and memory helpers.
use Rattle.std.specs.Prelude.{◌≡◌, ℕ, ◌%◌, ◌^◌, ◌<◌, ◌++◌, Bool, false, if◌then◌else◌, List, [], ◌∷◌, IsTrue, ◌&&◌, Option, Some, None, map}
use Rattle.clif_opcodes.specs.declared.opcodes.StackOpcode.TheVariants.{StackLoad}
use Rattle.clif_types.specs.declared.types.«Type».{«Type»}
use Rattle.clif_types.specs.MemFlags.{MemFlagsShape}
use Rattle.clif_types.specs.Types.{bits_of}
use Rattle.clif_types.specs.Signature.{SignatureShape}
use Rattle.clif_types.specs.declared.libcall.LibCall.{LibCall}
use Rattle.clif_types.specs.declared.libcall.LibCall.TheVariants.{Memcpy}
use Rattle.clif_types.specs.declared.extname.ExternalName.{ExternalName}
use Rattle.clif_types.specs.declared.extname.ExternalName.TheVariants as name
use Rattle.clif_meaning.specs.Bits.{Bits}
use Rattle.clif_meaning.specs.ByteOperation.{ByteOperation, Copy, Fill, CompareBytes, CallLibrary, access_size, is_by_accesses, is_by_loads}
use Rattle.clif_meaning.specs.Memory.{Range, address_in, lies_in}
use Rattle.clif_meaning.specs.Instruction.{Operation, Bytes, Load, Store, Stack, StackStore, Call, TryCall}
use Rattle.clif_meaning.specs.Outcome.{accessed, byte_ranges, slot_accessed, operand_type}
use Rattle.clif_meaning.specs.Library.{bytes_at, library_ranges}
use Rattle.clif_meaning.specs.World.{World}

-- a claim: each byte of the range may be read and written; the address is a multiple of the alignment, which is a
-- power of two; no address lies in both ranges
pub data Claim : Type 0 where
  Accessible : Range → Claim
  Aligned : (address alignment : ℕ) → Claim
  Apart : Range → Range → Claim

abbrev pub Holds : World → Claim → Type 0
Holds world (Accessible range) = (k : ℕ) → k < range.size → IsTrue (world.is_accessible (address_in range k))
Holds world (Aligned address alignment) = (shift : ℕ) × (alignment ≡ 2 ^ shift) × (address % 2 ^ shift ≡ 0)
Holds world (Apart left right) = (address : ℕ) → (lies_in left address && lies_in right address) ≡ false

-- the ranges that a function touches that is called by its name: what an outside one does isn't known
abbrev pub call_ranges : World → ExternalName → List Bits → List Range
call_ranges world (name.LibCall callee) (first ∷ second ∷ size ∷ []) = library_ranges world.pointer_width callee first second size
call_ranges world _ arguments = []

-- The table of operations, from the world, which places stack slots, and the operands' types and bits: the ranges that the
-- instruction touches.
abbrev pub touched_ranges : World → Operation → «Type» → List «Type» → List Bits → List Range
touched_ranges world (Load flags offset) ty types (address ∷ []) = accessed ty (operand_type types 0) address offset ∷ []
touched_ranges world (Store flags offset) ty types (stored ∷ address ∷ []) = accessed ty (operand_type types 1) address offset ∷ []
touched_ranges world (Stack StackLoad slot offset) ty types [] = slot_accessed world ty slot offset ∷ []
touched_ranges world (StackStore slot offset) ty types (stored ∷ []) = slot_accessed world ty slot offset ∷ []
touched_ranges world (Bytes operation) ty types operands = byte_ranges operation (bits_of ty) operands
touched_ranges world (Call name signature) ty types arguments = call_ranges world name arguments
touched_ranges world (TryCall name call) ty types arguments = call_ranges world name arguments
touched_ranges world _ ty types operands = []

-- what the flags of an access claim: that no byte is out of bounds, and that the address is a multiple of the size
abbrev pub claims_if : Bool → Claim → List Claim
claims_if claimed claim = if claimed then claim ∷ [] else []

abbrev pub access_claims : MemFlagsShape → Range → List Claim
access_claims flags range = claims_if flags.notrap (Accessible range) ++ claims_if flags.aligned (Aligned range.start range.size)

-- What a call of a function by its name claims: that what a function of the C library touches is accessible, and that what
-- `Memcpy` copies doesn't overlap.
abbrev pub overlap_claims : (width : ℕ) → LibCall → (first second size : Bits) → List Claim
overlap_claims width Memcpy first second size = Apart (bytes_at width first size) (bytes_at width second size) ∷ []
overlap_claims width _ first second size = []

abbrev pub call_claims : World → ExternalName → List Bits → List Claim
call_claims world (name.LibCall callee) (first ∷ second ∷ size ∷ []) =
    map Accessible (library_ranges world.pointer_width callee first second size)
    ++ overlap_claims world.pointer_width callee first second size
call_claims world _ arguments = []

-- what the alignments, the flags and the promises of an operation on bytes claim: flags speak of its accesses, where it is by any
abbrev pub promised_claims : ByteOperation → (width : ℕ) → List Bits → List Claim
promised_claims (Copy copy) width (target ∷ source ∷ []) =
    Aligned target copy.target_alignment ∷ Aligned source copy.source_alignment
    ∷ claims_if copy.no_overlap (Apart (bytes_at width target copy.size) (bytes_at width source copy.size))
    ++ claims_if (copy.flags.aligned && is_by_accesses copy.size) (Aligned target (access_size copy.size))
    ++ claims_if (copy.flags.aligned && is_by_accesses copy.size) (Aligned source (access_size copy.size))
promised_claims (Fill fill) width (target ∷ []) =
    Aligned target fill.alignment ∷ claims_if (fill.flags.aligned && is_by_accesses fill.size) (Aligned target (access_size fill.size))
promised_claims (CompareBytes compare) width (left ∷ right ∷ []) =
    Aligned left compare.left_alignment ∷ Aligned right compare.right_alignment
    ∷ claims_if (compare.flags.aligned && is_by_loads compare.condition compare.size) (Aligned left compare.size)
    ++ claims_if (compare.flags.aligned && is_by_loads compare.condition compare.size) (Aligned right compare.size)
promised_claims (CallLibrary callee) width (first ∷ second ∷ size ∷ []) = overlap_claims width callee first second size
promised_claims _ width operands = []

-- beside them that each byte that is touched is accessible
abbrev pub byte_claims : ByteOperation → (width : ℕ) → List Bits → List Claim
byte_claims operation width operands = map Accessible (byte_ranges operation width operands) ++ promised_claims operation width operands

-- The table of operations: what the instruction claims.
abbrev pub claims_of : World → Operation → «Type» → List «Type» → List Bits → List Claim
claims_of world (Load flags offset) ty types (address ∷ []) = access_claims flags (accessed ty (operand_type types 0) address offset)
claims_of world (Store flags offset) ty types (stored ∷ address ∷ []) = access_claims flags (accessed ty (operand_type types 1) address offset)
claims_of world (Bytes operation) ty types operands = byte_claims operation (bits_of ty) operands
claims_of world (Call name signature) ty types arguments = call_claims world name arguments
claims_of world (TryCall name call) ty types arguments = call_claims world name arguments
claims_of world _ ty types operands = []

-- a call of a function of the C library, by the signature that it gives
pub record LibraryCall : Type 0 where
  pub callee : LibCall
  pub signature : SignatureShape

-- the call of a library function by its name, if it is the name of one
abbrev pub library_named : ExternalName → SignatureShape → Option LibraryCall
library_named (name.LibCall callee) signature = Some (record { callee = callee; signature = signature })
library_named _ signature = None

-- The table of operations: the call of a library function that it makes, if it makes one.
abbrev pub library_call : Operation → Option LibraryCall
library_call (Call name signature) = library_named name signature
library_call (TryCall name call) = library_named name call.signature
library_call _ = None
