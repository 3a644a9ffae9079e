-- What an instruction does, from the bits of its operands, memory and the world: the table of the instruction set, by
-- operation. Both machines read it. After the documentation of Cranelift's instructions.
use Rattle.std.specs.Prelude.{ℕ, ℤ, zero, suc, ◌+◌, ◌-◌, ◌*◌, ◌/◌, ◌%◌, ◌^◌, ◌==◌, ◌&&◌, nat_le, nat_lt, not, Bool, true, false, if◌then◌else◌, List, [], ◌∷◌, Option, Some, None, slice_index_or}
use Rattle.std.specs.Int.Bits.{bit_and, bit_or, bit_xor}
use Rattle.clif_opcodes.specs.declared.opcodes.UnaryOpcode.{UnaryOpcode}
use Rattle.clif_opcodes.specs.declared.opcodes.UnaryOpcode.TheVariants.{Ineg, Bnot}
use Rattle.clif_opcodes.specs.declared.opcodes.BinaryOpcode.{BinaryOpcode}
use Rattle.clif_opcodes.specs.declared.opcodes.BinaryOpcode.TheVariants.{Iadd, Isub, Imul, Band, Bor, Bxor, Ishl, Ushr, Sshr, Udiv, Sdiv, Urem, Srem}
use Rattle.clif_opcodes.specs.declared.opcodes.CondTrapOpcode.{CondTrapOpcode}
use Rattle.clif_opcodes.specs.declared.opcodes.CondTrapOpcode.TheVariants.{Trapz, Trapnz}
use Rattle.clif_opcodes.specs.declared.opcodes.FloatConstOpcode.{FloatConstOpcode}
use Rattle.clif_opcodes.specs.declared.opcodes.FloatConstOpcode.TheVariants.{F16const, F32const, F64const}
use Rattle.clif_opcodes.specs.declared.opcodes.PooledConstOpcode.{PooledConstOpcode}
use Rattle.clif_opcodes.specs.declared.opcodes.PooledConstOpcode.TheVariants.{F128const, Vconst}
use Rattle.clif_opcodes.specs.Kinds.{double_of, half_of}
use Rattle.clif_types.specs.declared.condcodes.IntCC.{IntCC}
use Rattle.clif_types.specs.declared.condcodes.IntCC.TheVariants as cc
use Rattle.clif_types.specs.declared.types.LaneType.TheVariants as lane
use Rattle.clif_types.specs.declared.types.«Type».{«Type»}
use Rattle.clif_types.specs.declared.types.«Type».TheVariants as type
use Rattle.clif_types.specs.MemFlags.{MemFlagsShape}
use Rattle.clif_types.specs.declared.extname.ExternalName.{ExternalName}
use Rattle.clif_types.specs.declared.extname.ExternalName.TheVariants.{LibCall}
use Rattle.clif_types.specs.Signature.{SignatureShape}
use Rattle.clif_types.specs.declared.trapcode.TrapCode.{TrapCode}
use Rattle.clif_types.specs.declared.trapcode.TrapCode.TheVariants.{DivisionByZero, HeapOutOfBounds, IntegerOverflow}
use Rattle.clif_opcodes.specs.declared.opcodes.StackOpcode.TheVariants.{StackAddr, StackLoad}
use Rattle.clif_opcodes.specs.declared.opcodes.ConvertOpcode.{ConvertOpcode}
use Rattle.clif_opcodes.specs.declared.opcodes.ConvertOpcode.TheVariants.{Splat, Uextend, Sextend, Ireduce}
use Rattle.clif_types.specs.Types.{bits_of, bytes_of, lane_count_of, lane_type_of}
use Rattle.clif_meaning.specs.Bits.{Bits, value_bytes, value_of_bytes, wrapped}
use Rattle.clif_meaning.specs.ByteOperation.{ByteOperation, Copy, Fill, CompareBytes, CallLibrary, order_meets}
use Rattle.clif_meaning.specs.Memory.{Memory, Range, address_in, byte_order, bytes_in, copied, filled, written}
use Rattle.clif_meaning.specs.Instruction.{Arithmetic, Iconst, FloatConst, PooledConst, Unary, Binary, Compare, Concat, Split, Convert, Select, AddConstant, CompareConstant, Operation, Compute, Load, Store, Stack, StackStore, Trap, CondTrap, Jump, Brif, BrTable, Switch, Bytes, Return, Call, CallIndirect, TryCall, TryCallIndirect}
use Rattle.clif_meaning.specs.Event.{Callee, Named, AtAddress, CallShape, plain_call}
use Rattle.clif_meaning.specs.Switch.{edge_of_key}
use Rattle.clif_meaning.specs.World.{World}
use Rattle.clif_meaning.specs.Library.{bytes_at, has_library_types, library_answer, library_apart, library_memory, library_ranges, pointer_of}
use Rattle.clif_types.specs.declared.libcall.LibCall.{LibCall as LibraryFunction}
use Rattle.clif_types.specs.declared.libcall.LibCall.TheVariants.{Memcmp}

pub data Outcome : Type 0 where
  -- the results get these bits, memory is this, and control goes to the next place
  Gives : (results : List Bits) (memory : Memory) → Outcome
  -- memory is this, and control goes along this edge, which may pass what is given beside operands (on the normal edge of
  -- a try call of a library function its results; else nothing)
  Goes : (edge : ℕ) (given : List Bits) (memory : Memory) → Outcome
  -- the run ends with these bits
  Returns : (results : List Bits) → Outcome
  -- the run ends so
  Traps : TrapCode → Outcome
  -- an outside call with these arguments. A call of a function of the C library by its name is none: it gives its results
  -- and memory by itself
  Calls : Callee → CallShape → (arguments : List Bits) → Outcome
  -- there is no meaning: the machine can't step
  NoStep : Outcome

-- what arithmetic makes of bits
pub data Computed : Type 0 where
  Values : (results : List Bits) → Computed
  Fault : TrapCode → Computed
  Undefined : Computed

-- The bits of a number in two's complement: its sign, its magnitude, and the number with a sign and a magnitude, whose low
-- bits are taken.
abbrev pub is_negative : ℕ → Bits → Bool
is_negative width x = nat_le (2 ^ (width - 1)) x

abbrev pub magnitude : ℕ → Bits → ℕ
magnitude width x = if is_negative width x then 2 ^ width - x else x

abbrev pub with_sign : ℕ → Bool → ℕ → ℕ
with_sign width negative number = if negative then 2 ^ width - number else number

-- a number with copies of its sign bit above it, up to a greater width
abbrev pub sign_extended : (from to : ℕ) → Bits → ℕ
sign_extended from to x = if is_negative from x then 2 ^ to - (2 ^ from - x) else x

-- a number whose place among all unsigned ones is that of `x` among the signed ones: half of them more
abbrev pub signed_place : ℕ → Bits → ℕ
signed_place width x = (x + 2 ^ (width - 1)) % 2 ^ width

-- exactly one of two numbers is negative
abbrev pub signs_differ : ℕ → Bits → Bits → Bool
signs_differ width x y = if is_negative width x then not (is_negative width y) else is_negative width y

-- each bit inverted
abbrev pub inverted : ℕ → Bits → Bits
inverted width x = 2 ^ width - 1 - x

-- a divisor of zero
abbrev pub by_zero : Bits → Option TrapCode
by_zero divisor = if divisor == 0 then Some DivisionByZero else None

-- Operations on one operand: the number whose low bits are the result, at a width.
abbrev pub unary_number : UnaryOpcode → ℕ → Bits → ℕ
unary_number Ineg width x = 2 ^ width - x
unary_number Bnot width x = inverted width x

-- Operations on two operands: the number whose low bits are the result, if there is no fault.
abbrev pub binary_number : BinaryOpcode → ℕ → Bits → Bits → ℕ
binary_number Iadd width x y = x + y
binary_number Isub width x y = x + 2 ^ width - y
binary_number Imul width x y = x * y
binary_number Band width x y = bit_and x y
binary_number Bor width x y = bit_or x y
binary_number Bxor width x y = bit_xor x y
binary_number Ishl width x y = x * 2 ^ (y % width)
binary_number Ushr width x y = x / 2 ^ (y % width)
binary_number Sshr width x y = if is_negative width x then inverted width (inverted width x / 2 ^ (y % width)) else x / 2 ^ (y % width)
binary_number Udiv width x y = x / y
binary_number Sdiv width x y = with_sign width (signs_differ width x y) (magnitude width x / magnitude width y)
binary_number Urem width x y = x % y
binary_number Srem width x y = with_sign width (is_negative width x) (magnitude width x % magnitude width y)

-- the trap of a division: the divisor is zero, or the signed quotient is one above the greatest number
abbrev pub binary_fault : BinaryOpcode → ℕ → Bits → Bits → Option TrapCode
binary_fault Udiv width x y = by_zero y
binary_fault Sdiv width x y = if (x == 2 ^ (width - 1)) && (y == 2 ^ width - 1) then Some IntegerOverflow else by_zero y
binary_fault Urem width x y = by_zero y
binary_fault Srem width x y = by_zero y
binary_fault _ width x y = None

-- the low bits of a number, as many as the type has
abbrev pub low_bits_at : «Type» → ℕ → Bits
low_bits_at ty number = number % 2 ^ bits_of ty

-- Conversions: the number whose low bits are the result, at the type that is given. `splat` repeats the operand in every
-- lane.
abbrev pub repeated : (count width : ℕ) → Bits → ℕ
repeated zero width x = 0
repeated (suc count) width x = x + 2 ^ width * repeated count width x

abbrev pub converted_number : ConvertOpcode → (from to : «Type») → Bits → ℕ
converted_number Splat from ty x = repeated (lane_count_of ty) (bits_of (lane_type_of ty)) x
converted_number Uextend from ty x = x
converted_number Sextend from ty x = sign_extended (bits_of from) (bits_of ty) x
converted_number Ireduce from ty x = x

-- Comparisons: whether the condition holds of two integers, at a width.
abbrev pub compares : IntCC → ℕ → Bits → Bits → Bool
compares cc.Equal width x y = x == y
compares cc.NotEqual width x y = not (x == y)
compares cc.SignedLessThan width x y = nat_lt (signed_place width x) (signed_place width y)
compares cc.SignedGreaterThanOrEqual width x y = nat_le (signed_place width y) (signed_place width x)
compares cc.SignedGreaterThan width x y = nat_lt (signed_place width y) (signed_place width x)
compares cc.SignedLessThanOrEqual width x y = nat_le (signed_place width x) (signed_place width y)
compares cc.UnsignedLessThan width x y = nat_lt x y
compares cc.UnsignedGreaterThanOrEqual width x y = nat_le y x
compares cc.UnsignedGreaterThan width x y = nat_lt y x
compares cc.UnsignedLessThanOrEqual width x y = nat_le x y

-- the type of a float constant
abbrev pub float_type : FloatConstOpcode → «Type»
float_type F16const = type.Lane lane.F16
float_type F32const = type.Lane lane.F32
float_type F64const = type.Lane lane.F64

-- the type of a pooled constant, at a controlling type
abbrev pub pooled_type : PooledConstOpcode → «Type» → «Type»
pooled_type F128const ty = type.Lane lane.F128
pooled_type Vconst ty = ty

-- the type of the operand at a place; the invalid type where there is none
abbrev pub operand_type : List «Type» → ℕ → «Type»
operand_type types place = slice_index_or types place type.Invalid

-- a result, if there is no fault
abbrev pub unless_fault : Option TrapCode → Bits → Computed
unless_fault None result = Values (result ∷ [])
unless_fault (Some reason) result = Fault reason

-- The table of arithmetic, by the number of operands, at the controlling type and the operands' types. Another number of
-- operands has no meaning.
abbrev pub computed : Arithmetic → «Type» → List «Type» → List Bits → Computed
-- the low bits of the constant, or its sign repeated
computed (Iconst number) ty types [] = Values (wrapped (bits_of ty) number ∷ [])
computed (FloatConst opcode bits) ty types [] = Values (low_bits_at (float_type opcode) bits ∷ [])
computed (PooledConst opcode bytes) ty types [] = Values (low_bits_at (pooled_type opcode ty) (value_of_bytes bytes) ∷ [])
computed (Unary opcode) ty types (x ∷ []) = Values (low_bits_at ty (unary_number opcode (bits_of ty) x) ∷ [])
computed (Binary opcode) ty types (x ∷ y ∷ []) =
    unless_fault (binary_fault opcode (bits_of ty) x y) (low_bits_at ty (binary_number opcode (bits_of ty) x y))
computed (Compare condition) ty types (x ∷ y ∷ []) = Values ((if compares condition (bits_of ty) x y then 1 else 0) ∷ [])
computed Concat ty types (low ∷ high ∷ []) = Values (low_bits_at (double_of ty) (low + 2 ^ bits_of ty * high) ∷ [])
computed Split ty types (x ∷ []) = Values (low_bits_at (half_of ty) x ∷ low_bits_at (half_of ty) (x / 2 ^ bits_of (half_of ty)) ∷ [])
computed (Convert opcode) ty types (x ∷ []) = Values (low_bits_at ty (converted_number opcode (operand_type types 0) ty x) ∷ [])
computed Select ty types (condition ∷ x ∷ y ∷ []) = Values ((if condition == 0 then y else x) ∷ [])
-- the constant is cut to the type, or its sign is repeated
computed (AddConstant number) ty types (x ∷ []) = Values (low_bits_at ty (x + wrapped (bits_of ty) number) ∷ [])
computed (CompareConstant condition number) ty types (x ∷ []) =
    Values ((if compares condition (bits_of ty) x (wrapped (bits_of ty) number) then 1 else 0) ∷ [])
computed _ ty types _ = Undefined

-- arithmetic as an instruction: it leaves memory
abbrev pub outcome_of_computed : Computed → Memory → Outcome
outcome_of_computed (Values results) memory = Gives results memory
outcome_of_computed (Fault reason) memory = Traps reason
outcome_of_computed Undefined memory = NoStep

-- Memory: the bytes that an access at an address with an offset touches, where the access is of one type and the address of
-- another. Addresses count modulo their width.
abbrev pub accessed : (access address_type : «Type») → Bits → (offset : ℤ) → Range
accessed access address_type address offset =
    let width : ℕ = bits_of address_type in
    record { width = width; start = (address + wrapped width offset) % 2 ^ width; size = bytes_of access }

-- Stack slots: the address at an offset from where the world places a slot, which counts modulo the width of pointers, and
-- the bytes that an access there touches.
abbrev pub slot_address : World → ℕ → ℤ → Bits
slot_address world slot offset = (world.slot_place slot + wrapped world.pointer_width offset) % 2 ^ world.pointer_width

abbrev pub slot_accessed : World → «Type» → ℕ → ℤ → Range
slot_accessed world access slot offset = record { width = world.pointer_width; start = slot_address world slot offset; size = bytes_of access }

-- an access to a slot claims nothing: where a byte of it isn't accessible, it traps
abbrev pub no_claim : MemFlagsShape
no_claim = record { notrap = false; aligned = false; alias_region = None }

-- each of so many bytes from this place of a range on is accessible
abbrev pub are_accessible : World → Range → ℕ → Bool
are_accessible world range zero = true
are_accessible world range (suc count) = world.is_accessible (address_in range count) && are_accessible world range count

-- An access with these flags: where it is said to be aligned and isn't, there is no meaning; where a byte of it isn't
-- accessible, it traps, except if it is said that it doesn't: then there is no meaning either.
abbrev pub access_outcome : World → MemFlagsShape → Range → Outcome → Outcome
access_outcome world flags range outcome =
    if flags.aligned && not (range.start % range.size == 0) then NoStep
    else (if are_accessible world range range.size then outcome else (if flags.notrap then NoStep else Traps HeapOutOfBounds))

-- a trap under a condition
abbrev pub traps_on : CondTrapOpcode → Bits → Bool
traps_on Trapz condition = condition == 0
traps_on Trapnz condition = not (condition == 0)

-- the edge that a condition takes: the first one where it isn't zero, and else the second
abbrev pub edge_by : Bits → ℕ
edge_by condition = if condition == 0 then 1 else 0

-- the edge that an index takes in a table of so many entries: the default is the first edge, and the entries follow it
abbrev pub edge_in_table : ℕ → Bits → ℕ
edge_in_table entries index = if nat_lt index entries then suc index else 0

-- each byte of each range is accessible
abbrev pub ranges_accessible : World → List Range → Bool
ranges_accessible world [] = true
ranges_accessible world (range ∷ ranges) = are_accessible world range range.size && ranges_accessible world ranges

-- A function of the C library may run: the call's signature is its own, and what it takes for granted is true: that it may
-- touch the bytes that it touches, and that what mustn't overlap doesn't.
abbrev pub library_runs : World → LibraryFunction → SignatureShape → (first second size : Bits) → Bool
library_runs world callee signature first second size =
    has_library_types (pointer_of world.pointer_width) callee signature
    && ranges_accessible world (library_ranges world.pointer_width callee first second size)
    && library_apart world.pointer_width callee first second size

-- What the call of such a function does: it goes on with what the function answers and with memory after it. Where it may
-- not run, there is no meaning.
abbrev pub library_outcome : World → (List Bits → Memory → Outcome) → LibraryFunction → SignatureShape → List Bits → Memory → Outcome
library_outcome world goes_on callee signature (first ∷ second ∷ size ∷ []) memory =
    if library_runs world callee signature first second size
    then goes_on (library_answer world callee first second size memory ∷ []) (library_memory world.pointer_width callee first second size memory)
    else NoStep
library_outcome world goes_on callee signature _ memory = NoStep

-- The call of a function by its name: an outside call, except of a function of the C library, behind which it goes on so.
abbrev pub call_outcome : World → (List Bits → Memory → Outcome) → ExternalName → CallShape → List Bits → Memory → Outcome
call_outcome world goes_on (LibCall callee) call arguments memory = library_outcome world goes_on callee call.signature arguments memory
call_outcome world goes_on name call arguments memory = Calls (Named name) call arguments

-- Operations on bytes, at addresses of a width, by their operands: the ranges that they touch,
abbrev pub byte_ranges : ByteOperation → (width : ℕ) → List Bits → List Range
byte_ranges (Copy copy) width (target ∷ source ∷ []) = bytes_at width target copy.size ∷ bytes_at width source copy.size ∷ []
byte_ranges (Fill fill) width (target ∷ []) = bytes_at width target fill.size ∷ []
byte_ranges (CompareBytes compare) width (left ∷ right ∷ []) = bytes_at width left compare.size ∷ bytes_at width right compare.size ∷ []
byte_ranges (CallLibrary callee) width (first ∷ second ∷ size ∷ []) = library_ranges width callee first second size
byte_ranges _ width operands = []

-- whether there are as many operands as there should be, and what mustn't overlap doesn't,
abbrev pub bytes_in_order : ByteOperation → (width : ℕ) → List Bits → Bool
bytes_in_order (Copy copy) width (target ∷ source ∷ []) = true
bytes_in_order (Fill fill) width (target ∷ []) = true
bytes_in_order (CompareBytes compare) width (left ∷ right ∷ []) = true
bytes_in_order (CallLibrary callee) width (first ∷ second ∷ size ∷ []) = library_apart width callee first second size
bytes_in_order _ width operands = false

-- what they give,
abbrev pub byte_results : World → ByteOperation → (width : ℕ) → List Bits → Memory → List Bits
byte_results world (CompareBytes compare) width (left ∷ right ∷ []) memory =
    (if order_meets compare.condition (byte_order (bytes_in memory (bytes_at width left compare.size)) (bytes_in memory (bytes_at width right compare.size)))
    then 1 else 0) ∷ []
byte_results world (CallLibrary Memcmp) width (left ∷ right ∷ size ∷ []) memory =
    world.memcmp_number (bytes_in memory (bytes_at width left size)) (bytes_in memory (bytes_at width right size)) ∷ []
byte_results world _ width operands memory = []

-- and memory after them
abbrev pub byte_memory : ByteOperation → (width : ℕ) → List Bits → Memory → Memory
byte_memory (Copy copy) width (target ∷ source ∷ []) memory = copied memory (bytes_at width target copy.size) source
byte_memory (Fill fill) width (target ∷ []) memory = filled memory (bytes_at width target fill.size) (fill.byte % 256)
byte_memory (CallLibrary callee) width (first ∷ second ∷ size ∷ []) memory = library_memory width callee first second size memory
byte_memory _ width operands memory = memory

-- Such an operation, in one step. Where a byte isn't accessible, or what mustn't overlap does, there is no meaning.
abbrev pub byte_outcome : World → ByteOperation → (width : ℕ) → List Bits → Memory → Outcome
byte_outcome world operation width operands memory =
    if bytes_in_order operation width operands && ranges_accessible world (byte_ranges operation width operands)
    then Gives (byte_results world operation width operands memory) (byte_memory operation width operands memory)
    else NoStep

-- the table of operations: world, controlling type, the operands' types and bits, memory
abbrev pub outcome_of : World → Operation → «Type» → List «Type» → List Bits → Memory → Outcome
outcome_of world (Compute arithmetic) ty types operands memory = outcome_of_computed (computed arithmetic ty types operands) memory
outcome_of world (Load flags offset) ty types (address ∷ []) memory =
    let range : Range = accessed ty (operand_type types 0) address offset in
    access_outcome world flags range (Gives (low_bits_at ty (value_of_bytes (bytes_in memory range)) ∷ []) memory)
outcome_of world (Store flags offset) ty types (stored ∷ address ∷ []) memory =
    let range : Range = accessed ty (operand_type types 1) address offset in
    access_outcome world flags range (Gives [] (written memory range (value_bytes range.size stored)))
outcome_of world (Stack StackAddr slot offset) ty types [] memory = Gives (low_bits_at ty (slot_address world slot offset) ∷ []) memory
outcome_of world (Stack StackLoad slot offset) ty types [] memory =
    let range : Range = slot_accessed world ty slot offset in
    access_outcome world no_claim range (Gives (low_bits_at ty (value_of_bytes (bytes_in memory range)) ∷ []) memory)
outcome_of world (StackStore slot offset) ty types (stored ∷ []) memory =
    let range : Range = slot_accessed world ty slot offset in
    access_outcome world no_claim range (Gives [] (written memory range (value_bytes range.size stored)))
outcome_of world (Trap reason) ty types [] memory = Traps reason
outcome_of world (CondTrap opcode reason) ty types (condition ∷ []) memory =
    if traps_on opcode condition then Traps reason else Gives [] memory
outcome_of world Jump ty types [] memory = Goes 0 [] memory
outcome_of world Brif ty types (condition ∷ []) memory = Goes (edge_by condition) [] memory
outcome_of world (BrTable entries) ty types (index ∷ []) memory = Goes (edge_in_table entries index) [] memory
outcome_of world (Switch keys) ty types (key ∷ []) memory = Goes (edge_of_key keys key) [] memory
outcome_of world (Bytes operation) ty types operands memory = byte_outcome world operation (bits_of ty) operands memory
outcome_of world Return ty types operands memory = Returns operands
outcome_of world (Call name signature) ty types arguments memory = call_outcome world Gives name (plain_call signature) arguments memory
outcome_of world (CallIndirect signature) ty types (address ∷ arguments) memory = Calls (AtAddress address signature) (plain_call signature) arguments
outcome_of world (TryCall name call) ty types arguments memory = call_outcome world (Goes 0) name call arguments memory
outcome_of world (TryCallIndirect call) ty types (address ∷ arguments) memory = Calls (AtAddress address call.signature) call arguments
outcome_of world _ ty types _ memory = NoStep
