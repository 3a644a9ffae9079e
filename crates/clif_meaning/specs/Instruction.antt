-- The one shape of an instruction, for the script's machine and for the function's: what operands are is a parameter,
-- a name or a value. After Cranelift's `InstructionData`, its opcode and controlling type apart from its operands.
use Rattle.std.specs.Prelude.{ℕ, List, [], ◌∷◌, ◌++◌, ℤ}
use Rattle.clif_opcodes.specs.declared.opcodes.CondTrapOpcode.{CondTrapOpcode}
use Rattle.clif_opcodes.specs.declared.opcodes.FloatConstOpcode.{FloatConstOpcode}
use Rattle.clif_opcodes.specs.declared.opcodes.PooledConstOpcode.{PooledConstOpcode}
use Rattle.clif_opcodes.specs.declared.opcodes.UnaryOpcode.{UnaryOpcode}
use Rattle.clif_opcodes.specs.declared.opcodes.BinaryOpcode.{BinaryOpcode}
use Rattle.clif_opcodes.specs.declared.opcodes.ConvertOpcode.{ConvertOpcode}
use Rattle.clif_opcodes.specs.declared.opcodes.StackOpcode.{StackOpcode}
use Rattle.clif_opcodes.specs.declared.opcodes.Opcode.{Opcode}
use Rattle.clif_opcodes.specs.declared.opcodes.Opcode.TheVariants as opcode
use Rattle.clif_opcodes.specs.declared.kinds.Demand.TheVariants.{AnInteger}
use Rattle.clif_opcodes.specs.declared.kinds.OperandKind.TheVariants.{Controlling}
use Rattle.clif_opcodes.specs.declared.kinds.ResultKind.TheVariants as kind
use Rattle.clif_opcodes.specs.declared.opcodes.BinaryOpcode.TheVariants.{Iadd}
use Rattle.clif_opcodes.specs.Typing.{Row, like_first, row_of, unary_row}
use Rattle.clif_types.specs.declared.types.LaneType.TheVariants as lane
use Rattle.clif_types.specs.declared.types.«Type».TheVariants as type
use Rattle.clif_types.specs.declared.condcodes.IntCC.{IntCC}
use Rattle.clif_types.specs.declared.trapcode.TrapCode.{TrapCode}
use Rattle.clif_types.specs.declared.types.«Type».{«Type»}
use Rattle.clif_types.specs.MemFlags.{MemFlagsShape}
use Rattle.clif_types.specs.Signature.{SignatureShape}
use Rattle.clif_types.specs.declared.extfunc.AbiParam.{AbiParam}
use Rattle.clif_types.specs.declared.extname.ExternalName.{ExternalName}
use Rattle.clif_instructions.specs.Instruction.{EntryRef, ASlot}
use Rattle.clif_meaning.specs.ByteOperation.{ByteOperation, byte_opcode, byte_typing}
use Rattle.clif_meaning.specs.Event.{CallShape}

-- operations that compute bits from bits, without memory, world or control
pub data Arithmetic : Type 0 where
  -- the constant, a number of 64 bits
  Iconst : (number : ℤ) → Arithmetic
  -- the bits of a float
  FloatConst : FloatConstOpcode → (bits : ℕ) → Arithmetic
  -- the bytes of a pooled constant, the lowest first
  PooledConst : PooledConstOpcode → (bytes : List ℕ) → Arithmetic
  -- an operation on one operand
  Unary : UnaryOpcode → Arithmetic
  -- an operation on two operands
  Binary : BinaryOpcode → Arithmetic
  -- 1 if the condition holds of two integers, and else 0
  Compare : IntCC → Arithmetic
  -- the integer of twice the width, of its low and its high half
  Concat : Arithmetic
  -- the low half of an integer and its high half
  Split : Arithmetic
  -- an operation on one operand, whose result has a type that is given
  Convert : ConvertOpcode → Arithmetic
  -- the second of three operands if the first isn't zero, and else the third
  Select : Arithmetic
  -- Of scripts alone; several instructions of a function stand for each. The sum of an operand and a constant, a number of 64
  -- bits, and 1 if the condition holds of an operand and a constant, and else 0.
  AddConstant : (number : ℤ) → Arithmetic
  CompareConstant : IntCC → (number : ℤ) → Arithmetic

-- what an instruction does
pub data Operation : Type 0 where
  -- computes its results
  Compute : Arithmetic → Operation
  -- what is in memory at the address that its operand and the offset make
  Load : (flags : MemFlagsShape) (offset : ℤ) → Operation
  -- puts its first operand into memory, at the address that the second one and the offset make
  Store : (flags : MemFlagsShape) (offset : ℤ) → Operation
  -- gives where a stack slot is, at an offset, or what is in memory there
  Stack : StackOpcode → (slot : ℕ) (offset : ℤ) → Operation
  -- puts its operand into memory where a stack slot is, at an offset
  StackStore : (slot : ℕ) (offset : ℤ) → Operation
  -- ends the run with a trap
  Trap : TrapCode → Operation
  -- does so where its operand is zero, or where it isn't
  CondTrap : CondTrapOpcode → TrapCode → Operation
  -- goes along its one edge
  Jump : Operation
  -- goes along its first edge where its operand isn't zero, and else along its second
  Brif : Operation
  -- goes along the entry whose number its operand is, of so many, and else along the default
  BrTable : (entries : ℕ) → Operation
  -- Of scripts alone; tests and tables of a function stand for it. Goes along the edge of the key that its operand is, and else
  -- along the one behind those of its keys.
  Switch : (keys : List ℕ) → Operation
  -- Of scripts alone; accesses or a call stand for it. Copies, fills or compares bytes.
  Bytes : ByteOperation → Operation
  -- ends the run with the operands
  Return : Operation
  -- calls a function by its name, with its operands
  Call : (name : ExternalName) (signature : SignatureShape) → Operation
  -- calls what is at an address, its first operand, with the others
  CallIndirect : (signature : SignatureShape) → Operation
  -- the same, and goes along its first edge where the call returns, or along that of an item where it throws
  TryCall : (name : ExternalName) → CallShape → Operation
  TryCallIndirect : CallShape → Operation

-- its opcode; of what only scripts have that of the last instruction that stands for it
abbrev pub operation_opcode : Operation → Opcode
operation_opcode (Compute (Iconst number)) = opcode.Iconst
operation_opcode (Compute (FloatConst name bits)) = opcode.FloatConst name
operation_opcode (Compute (PooledConst name bytes)) = opcode.PooledConst name
operation_opcode (Compute (Unary name)) = opcode.Unary name
operation_opcode (Compute (Binary name)) = opcode.Binary name
operation_opcode (Compute (Compare condition)) = opcode.Icmp
operation_opcode (Compute Concat) = opcode.Iconcat
operation_opcode (Compute Split) = opcode.Isplit
operation_opcode (Compute (Convert name)) = opcode.Convert name
operation_opcode (Compute Select) = opcode.Select
operation_opcode (Compute (AddConstant number)) = opcode.Binary Iadd
operation_opcode (Compute (CompareConstant condition number)) = opcode.Icmp
operation_opcode (Load flags offset) = opcode.Load
operation_opcode (Store flags offset) = opcode.Store
operation_opcode (Stack name slot offset) = opcode.Stack name
operation_opcode (StackStore slot offset) = opcode.StackStore
operation_opcode (Trap reason) = opcode.Trap
operation_opcode (CondTrap name reason) = opcode.CondTrap name
operation_opcode Jump = opcode.Jump
operation_opcode Brif = opcode.Brif
operation_opcode (BrTable entries) = opcode.BrTable
operation_opcode (Switch keys) = opcode.BrTable
operation_opcode (Bytes operation) = byte_opcode operation
operation_opcode Return = opcode.Return
operation_opcode (Call name signature) = opcode.Call
operation_opcode (CallIndirect signature) = opcode.CallIndirect
operation_opcode (TryCall name call) = opcode.TryCall
operation_opcode (TryCallIndirect call) = opcode.TryCallIndirect

-- its row of the typing table; of what only scripts have a row without the constant, and of a switch that of a branch on an integer
abbrev pub operation_typing : Operation → Row
operation_typing (Compute (AddConstant number)) = unary_row
operation_typing (Compute (CompareConstant condition number)) = like_first AnInteger (Controlling ∷ []) (kind.Exactly (type.Lane lane.I8) ∷ [])
operation_typing (Switch keys) = row_of opcode.Brif
operation_typing (Bytes operation) = byte_typing operation
operation_typing operation = row_of (operation_opcode operation)

-- what a plain call gives. A try call gives nothing itself: what it gets is passed along its first edge.
abbrev pub operation_returns : Operation → List AbiParam
operation_returns (Call name signature) = signature.returns
operation_returns (CallIndirect signature) = signature.returns
operation_returns _ = []

-- the entries of tables that it names. The bytes of a constant, which it has itself, are none, and so are the name and the
-- signature of a call.
abbrev pub operation_entries : Operation → List EntryRef
operation_entries (Stack name slot offset) = ASlot slot ∷ []
operation_entries (StackStore slot offset) = ASlot slot ∷ []
operation_entries _ = []

-- what an edge passes to a parameter of its target
pub data Argument (Operand : Type 0) : Type 0 where
  -- an operand
  Known : Operand → Argument Operand
  -- on the normal edge of a try call: this one of the callee's returns
  CallResult : (index : ℕ) → Argument Operand
  -- on an edge of an item of a try call: this part of the exception
  CallPayload : (index : ℕ) → Argument Operand

-- an edge: the block that it leads to, and what it passes
pub record Edge (Block Operand : Type 0) : Type 0 where
  pub target : Block
  pub arguments : List (Argument Operand)

-- an instruction. `controlling` is the type that an operation over several types is made at. The contexts of a try call are
-- what its table names for the tags that follow, of any type: they are there for an unwinder, and no run reads them. The
-- edges of `brif` are the one where the condition holds and the other; of `br_table` the default and then its entries in
-- order; of a try call the normal edge and then those of its items; of a switch those of its keys in order and then the default.
pub record Instruction (Block Operand : Type 0) : Type 0 where
  pub operation : Operation
  pub controlling : «Type»
  pub operands : List Operand
  pub contexts : List Operand
  pub edges : List (Edge Block Operand)

-- what an instruction names itself, its edges aside: its operands, and then its contexts
abbrev pub named_operands : {Block Operand : Type 0} → Instruction Block Operand → List Operand
named_operands instruction = instruction.operands ++ instruction.contexts
