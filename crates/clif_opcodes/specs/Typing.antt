-- The typing table of the instructions: at which controlling types each one is defined, the types of its operands and of
-- its results, where the controlling type comes from, and whether it ends its block. After the documentation of Cranelift's
-- instructions, for scalar integers. Own: `iconst` at I128, `stack_addr` at any integer type, and calls of an address
-- print no type.
use Rattle.std.specs.Prelude.{◌≡◌, Bool, true, false, not, List, [], ◌∷◌, length, take, drop}
use Rattle.clif_types.specs.declared.types.LaneType.TheVariants as lane
use Rattle.clif_types.specs.declared.types.«Type».{«Type»}
use Rattle.clif_types.specs.declared.types.«Type».TheVariants as type
use Rattle.clif_opcodes.specs.declared.kinds.Control.{Control}
use Rattle.clif_opcodes.specs.declared.kinds.Control.TheVariants as control
use Rattle.clif_opcodes.specs.declared.kinds.Demand.{Demand}
use Rattle.clif_opcodes.specs.declared.kinds.Demand.TheVariants as demand
use Rattle.clif_opcodes.specs.declared.kinds.OperandKind.{OperandKind}
use Rattle.clif_opcodes.specs.declared.kinds.OperandKind.TheVariants as operand
use Rattle.clif_opcodes.specs.declared.kinds.OtherOperands.{OtherOperands}
use Rattle.clif_opcodes.specs.declared.kinds.OtherOperands.TheVariants as others
use Rattle.clif_opcodes.specs.declared.kinds.ResultKind.{ResultKind}
use Rattle.clif_opcodes.specs.declared.kinds.ResultKind.TheVariants as kind
use Rattle.clif_opcodes.specs.declared.opcodes.FloatConstOpcode.{FloatConstOpcode}
use Rattle.clif_opcodes.specs.declared.opcodes.FloatConstOpcode.TheVariants as float
use Rattle.clif_opcodes.specs.declared.opcodes.PooledConstOpcode.{PooledConstOpcode}
use Rattle.clif_opcodes.specs.declared.opcodes.PooledConstOpcode.TheVariants as pooled
use Rattle.clif_opcodes.specs.declared.opcodes.ConvertOpcode.{ConvertOpcode}
use Rattle.clif_opcodes.specs.declared.opcodes.ConvertOpcode.TheVariants as convert
use Rattle.clif_opcodes.specs.declared.opcodes.BinaryOpcode.{BinaryOpcode}
use Rattle.clif_opcodes.specs.declared.opcodes.BinaryOpcode.TheVariants as binary
use Rattle.clif_opcodes.specs.declared.opcodes.StackOpcode.{StackOpcode}
use Rattle.clif_opcodes.specs.declared.opcodes.StackOpcode.TheVariants as stack
use Rattle.clif_opcodes.specs.declared.opcodes.Opcode.{Opcode}
use Rattle.clif_opcodes.specs.declared.opcodes.Opcode.TheVariants as opcode
use Rattle.clif_opcodes.specs.declared.typing.Typing.{Typing}
use Rattle.clif_opcodes.specs.Kinds.{IsOfKind}

pub record Row : Type 0 where
  -- what the instruction requires of its controlling type
  pub demand : Demand
  -- where that type comes from
  pub control : Control
  -- the operands of fixed number
  pub operands : List OperandKind
  -- those after them
  pub others : OtherOperands
  pub results : List ResultKind
  -- the results are what the signature that is called returns
  pub returns : Bool
  -- the instruction ends its block
  pub ends : Bool

-- the code's row equals this one
pub record IsRow (typing : Typing) (row : Row) : Type 0 where
  pub demand : typing.demand ≡ row.demand
  pub control : typing.control ≡ row.control
  pub operands : typing.operands.now ≡ row.operands
  pub others : typing.others ≡ row.others
  pub results : typing.results.now ≡ row.results
  pub returns : typing.returns ≡ row.returns
  pub ends : typing.ends ≡ row.ends

-- these types are of these kinds, and there are as many
abbrev pub AreOfKinds : «Type» → List OperandKind → List «Type» → Type 0
AreOfKinds ty [] [] = Unit {0}
AreOfKinds ty (kind ∷ kinds) (found ∷ more) = IsOfKind ty kind found × AreOfKinds ty kinds more
AreOfKinds ty _ _ = ⊥

-- an instruction takes operands of these types, in a function with these return types, if its callee has these parameter
-- types
abbrev pub FitOperands : (returns arguments : List «Type») → «Type» → OtherOperands → List OperandKind → List «Type» → Type 0
FitOperands returns arguments ty others.Nothing kinds found = AreOfKinds ty kinds found
FitOperands returns arguments ty others.Returned kinds found = found ≡ returns
FitOperands returns arguments ty others.Arguments kinds found =
    AreOfKinds ty kinds (take (length kinds) found) × (drop (length kinds) found ≡ arguments)

-- THE TABLE -------------------------------------------------------------------------------------------------------

-- it has these operands and no others, and gives these results
abbrev pub plain : Demand → Control → List OperandKind → List ResultKind → Row
plain demand control operands results =
    record { demand = demand; control = control; operands = operands; others = others.Nothing; results = results; returns = false; ends = false }

-- its first operand tells its controlling type
abbrev pub like_first : Demand → List OperandKind → List ResultKind → Row
like_first demand operands results = plain demand (control.Operand 0) operands results

-- a value of the type that is given
abbrev pub given : Demand → List OperandKind → Row
given demand operands = plain demand control.Given operands (kind.Controlling ∷ [])

-- a value of this type, without operands
abbrev pub constant_of : «Type» → Row
constant_of ty = plain demand.Nothing control.Absent [] (kind.Exactly ty ∷ [])

-- a call: it takes these operands and then the arguments. Its results are those of the signature, except if it ends its
-- block: then they are passed along its edge
abbrev pub calling : List OperandKind → Bool → Row
calling operands ends =
    record { demand = demand.Nothing; control = control.Absent; operands = operands; others = others.Arguments; results = []; returns = not ends; ends = ends }

-- the end of a block
abbrev pub ending : Demand → Control → List OperandKind → OtherOperands → Row
ending demand control operands others =
    record { demand = demand; control = control; operands = operands; others = others; results = []; returns = false; ends = true }

abbrev pub float_const_row : FloatConstOpcode → Row
float_const_row float.F16const = constant_of (type.Lane lane.F16)
float_const_row float.F32const = constant_of (type.Lane lane.F32)
float_const_row float.F64const = constant_of (type.Lane lane.F64)

abbrev pub pooled_const_row : PooledConstOpcode → Row
pooled_const_row pooled.F128const = constant_of (type.Lane lane.F128)
pooled_const_row pooled.Vconst = given demand.AVector []

-- each unary instruction makes an integer of its operand's type
abbrev pub unary_row : Row
unary_row = like_first demand.AnInteger (operand.Controlling ∷ []) (kind.Controlling ∷ [])

-- each conversion has one operand, of this kind, and makes a value of the type that is given
abbrev pub convert_operand : ConvertOpcode → OperandKind
convert_operand convert.Splat = operand.Lane
convert_operand convert.Uextend = operand.Narrower
convert_operand convert.Sextend = operand.Narrower
convert_operand convert.Ireduce = operand.Wider

abbrev pub convert_demand : ConvertOpcode → Demand
convert_demand convert.Splat = demand.AVector
convert_demand _ = demand.AnInteger

abbrev pub convert_row : ConvertOpcode → Row
convert_row o = given (convert_demand o) (convert_operand o ∷ [])

-- each binary instruction makes an integer of its first operand's type; the second is of that type or an amount
abbrev pub binary_second : BinaryOpcode → OperandKind
binary_second binary.Ishl = operand.AnInteger
binary_second binary.Ushr = operand.AnInteger
binary_second binary.Sshr = operand.AnInteger
binary_second _ = operand.Controlling

abbrev pub binary_row : BinaryOpcode → Row
binary_row o = like_first demand.AnInteger (operand.Controlling ∷ binary_second o ∷ []) (kind.Controlling ∷ [])

abbrev pub stack_row : StackOpcode → Row
stack_row stack.StackAddr = given demand.AnInteger []
stack_row stack.StackLoad = given demand.AType []

abbrev pub row_of : Opcode → Row
row_of opcode.Iconst = given demand.AnInteger []
row_of (opcode.FloatConst o) = float_const_row o
row_of (opcode.PooledConst o) = pooled_const_row o
row_of (opcode.Unary o) = unary_row
row_of (opcode.Convert o) = convert_row o
row_of (opcode.Binary o) = binary_row o
row_of opcode.Iconcat = like_first demand.ADoubled (operand.Controlling ∷ operand.Controlling ∷ []) (kind.Double ∷ [])
row_of opcode.Isplit = like_first demand.AHalved (operand.Controlling ∷ []) (kind.Half ∷ kind.Half ∷ [])
row_of opcode.Icmp =
    like_first demand.AnInteger (operand.Controlling ∷ operand.Controlling ∷ []) (kind.Exactly (type.Lane lane.I8) ∷ [])
row_of opcode.Select =
    plain demand.AType (control.Operand 1) (operand.AnInteger ∷ operand.Controlling ∷ operand.Controlling ∷ []) (kind.Controlling ∷ [])
row_of opcode.Load = given demand.AType (operand.Address ∷ [])
row_of opcode.Store = like_first demand.AType (operand.Controlling ∷ operand.Address ∷ []) []
row_of (opcode.Stack o) = stack_row o
row_of opcode.StackStore = like_first demand.AType (operand.Controlling ∷ []) []
row_of opcode.Jump = ending demand.Nothing control.Absent [] others.Nothing
row_of opcode.Brif = ending demand.AnInteger (control.Operand 0) (operand.Controlling ∷ []) others.Nothing
row_of opcode.BrTable = ending demand.Nothing control.Absent (operand.Exactly (type.Lane lane.I32) ∷ []) others.Nothing
row_of opcode.Return = ending demand.Nothing control.Absent [] others.Returned
row_of opcode.Trap = ending demand.Nothing control.Absent [] others.Nothing
row_of (opcode.CondTrap o) = like_first demand.AnInteger (operand.Controlling ∷ []) []
row_of opcode.Call = calling [] false
row_of opcode.CallIndirect = calling (operand.Address ∷ []) false
row_of opcode.TryCall = calling [] true
row_of opcode.TryCallIndirect = calling (operand.Address ∷ []) true
