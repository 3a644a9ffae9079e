-- What memory helpers do to bytes, as operations that only scripts have: copies, fills and comparisons of a known size, and calls
-- of functions of the C library with a size that is a value. After the documentation of Cranelift's `emit_small_memory_copy`,
-- `emit_small_memset`, `emit_small_memory_compare`, `call_memcpy`, `call_memmove`, `call_memset` and `call_memcmp`.
use Rattle.std.specs.Prelude.{ℕ, ◌*◌, ◌/◌, ◌^◌, ◌==◌, nat_le, min, if◌then◌else◌, Bool, true, false, is_some, [], ◌∷◌}
use Rattle.std.specs.Int.{trailing_zeros, w64}
use Rattle.std.specs.Ordering.{is_eq, is_ge, is_gt, is_le, is_lt, is_ne}
use Rattle.std.specs.declared.cmp.Ordering.{Ordering}
use Rattle.clif_opcodes.specs.declared.kinds.Demand.TheVariants.{AnInteger}
use Rattle.clif_opcodes.specs.declared.kinds.OperandKind.TheVariants as kind
use Rattle.clif_opcodes.specs.declared.kinds.ResultKind.TheVariants as result
use Rattle.clif_opcodes.specs.declared.opcodes.Opcode.{Opcode}
use Rattle.clif_opcodes.specs.declared.opcodes.Opcode.TheVariants as opcode
use Rattle.clif_opcodes.specs.Typing.{Row, like_first}
use Rattle.clif_types.specs.MemFlags.{MemFlagsShape}
use Rattle.clif_types.specs.Types.{int_of}
use Rattle.clif_types.specs.declared.condcodes.IntCC.{IntCC}
use Rattle.clif_types.specs.declared.condcodes.IntCC.TheVariants as cc
use Rattle.clif_types.specs.declared.libcall.LibCall.{LibCall}
use Rattle.clif_types.specs.declared.libcall.LibCall.TheVariants.{Memcpy, Memmove, Memset, Memcmp}
use Rattle.clif_types.specs.declared.types.LaneType.TheVariants as lane
use Rattle.clif_types.specs.declared.types.«Type».TheVariants as type

-- THE OPERATIONS ----------------------------------------------------------------------------------------------------------

-- so many bytes from a source to a target, with their alignments; whether it is said that they don't overlap; the flags of
-- the accesses
pub record CopyShape : Type 0 where
  pub size : ℕ
  pub target_alignment : ℕ
  pub source_alignment : ℕ
  pub no_overlap : Bool
  pub flags : MemFlagsShape

-- a byte, into each of so many places
pub record FillShape : Type 0 where
  pub byte : ℕ
  pub size : ℕ
  pub alignment : ℕ
  pub flags : MemFlagsShape

-- the order of so many bytes on the left and on the right, and the condition that it meets or not
pub record CompareShape : Type 0 where
  pub condition : IntCC
  pub size : ℕ
  pub left_alignment : ℕ
  pub right_alignment : ℕ
  pub flags : MemFlagsShape

pub data ByteOperation : Type 0 where
  -- the operands are the addresses of the target and of the source
  Copy : CopyShape → ByteOperation
  -- the operand is the address
  Fill : FillShape → ByteOperation
  -- The operands are the addresses of the left and of the right bytes. The result is 1 if the condition holds, and else 0.
  CompareBytes : CompareShape → ByteOperation
  -- The operands are those of the function, but that the number of a fill is an I8. A comparison gives what the function answers;
  -- the others give nothing.
  CallLibrary : LibCall → ByteOperation

-- COMPARISONS -------------------------------------------------------------------------------------------------------------

-- the condition tells equality, or the order of unsigned numbers
abbrev pub is_unsigned : IntCC → Bool
is_unsigned cc.SignedLessThan = false
is_unsigned cc.SignedGreaterThanOrEqual = false
is_unsigned cc.SignedGreaterThan = false
is_unsigned cc.SignedLessThanOrEqual = false
is_unsigned condition = true

-- the condition holds of two lists in this order; bytes are unsigned, so that signed conditions say nothing of them
abbrev pub order_meets : IntCC → Ordering → Bool
order_meets cc.Equal order = is_eq order
order_meets cc.NotEqual order = is_ne order
order_meets cc.UnsignedLessThan order = is_lt order
order_meets cc.UnsignedGreaterThanOrEqual order = is_ge order
order_meets cc.UnsignedGreaterThan order = is_gt order
order_meets cc.UnsignedLessThanOrEqual order = is_le order
order_meets condition order = false

-- the condition tells whether two lists of bytes are the same
abbrev pub tells_equality : IntCC → Bool
tells_equality cc.Equal = true
tells_equality cc.NotEqual = true
tells_equality condition = false

-- SIZES -------------------------------------------------------------------------------------------------------------------

-- the greatest power of two that divides a size of 64 bits, which isn't 0
abbrev pub greatest_power : ℕ → ℕ
greatest_power size = 2 ^ trailing_zeros w64 size

-- how many bytes one access of a copy or a fill moves
abbrev pub access_size : ℕ → ℕ
access_size size = min (greatest_power size) 8

-- a copy or a fill is by at most four accesses, or else by a call
abbrev pub is_by_accesses : (size : ℕ) → Bool
is_by_accesses size = nat_le (size / access_size size) 4

-- A comparison is by one load of each side, or else by a call: whether bytes are the same where an integer has as many, the order
-- where there is one.
abbrev pub is_by_loads : IntCC → (size : ℕ) → Bool
is_by_loads condition size = if tells_equality condition then is_some (int_of (8 * size)) else (size == 1)

-- TYPES -------------------------------------------------------------------------------------------------------------------

-- the row of the typing table: addresses and sizes are integers of one type, that of pointers
abbrev pub library_typing : LibCall → Row
library_typing Memcpy = like_first AnInteger (kind.Controlling ∷ kind.Controlling ∷ kind.Controlling ∷ []) []
library_typing Memmove = like_first AnInteger (kind.Controlling ∷ kind.Controlling ∷ kind.Controlling ∷ []) []
library_typing Memset = like_first AnInteger (kind.Controlling ∷ kind.Exactly (type.Lane lane.I8) ∷ kind.Controlling ∷ []) []
library_typing Memcmp =
    like_first AnInteger (kind.Controlling ∷ kind.Controlling ∷ kind.Controlling ∷ []) (result.Exactly (type.Lane lane.I32) ∷ [])

abbrev pub byte_typing : ByteOperation → Row
byte_typing (Copy copy) = like_first AnInteger (kind.Controlling ∷ kind.Controlling ∷ []) []
byte_typing (Fill fill) = like_first AnInteger (kind.Controlling ∷ []) []
byte_typing (CompareBytes compare) =
    like_first AnInteger (kind.Controlling ∷ kind.Controlling ∷ []) (result.Exactly (type.Lane lane.I8) ∷ [])
byte_typing (CallLibrary callee) = library_typing callee

-- the opcode of the last instruction that stands for it, where it is by accesses
abbrev pub byte_opcode : ByteOperation → Opcode
byte_opcode (Copy copy) = opcode.Store
byte_opcode (Fill fill) = opcode.Store
byte_opcode (CompareBytes compare) = opcode.Icmp
byte_opcode (CallLibrary callee) = opcode.Call
