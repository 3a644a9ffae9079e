-- The types of an instruction's operands and results, by its controlling type. After the documentation of Cranelift's
-- instructions, for scalar integers. Own: addresses of 16 bits.
use Rattle.std.specs.Prelude.{◌≡◌, ◌<◌, ◌&&◌, Bool, true, false, IsTrue}
use Rattle.clif_types.specs.declared.types.LaneType.TheVariants as lane
use Rattle.clif_types.specs.declared.types.«Type».{«Type»}
use Rattle.clif_types.specs.declared.types.«Type».TheVariants as type
use Rattle.clif_types.specs.Types.{bits_of, is_int, is_type, is_vector, lane_type_of}
use Rattle.clif_opcodes.specs.declared.kinds.Demand.{Demand}
use Rattle.clif_opcodes.specs.declared.kinds.Demand.TheVariants as demand
use Rattle.clif_opcodes.specs.declared.kinds.OperandKind.{OperandKind}
use Rattle.clif_opcodes.specs.declared.kinds.OperandKind.TheVariants as operand
use Rattle.clif_opcodes.specs.declared.kinds.ResultKind.{ResultKind}
use Rattle.clif_opcodes.specs.declared.kinds.ResultKind.TheVariants as kind

-- the integer of half the width; the invalid type where there is none
abbrev pub half_of : «Type» → «Type»
half_of (type.Lane lane.I16) = type.Lane lane.I8
half_of (type.Lane lane.I32) = type.Lane lane.I16
half_of (type.Lane lane.I64) = type.Lane lane.I32
half_of (type.Lane lane.I128) = type.Lane lane.I64
half_of _ = type.Invalid

-- the integer of twice the width; the invalid type where there is none
abbrev pub double_of : «Type» → «Type»
double_of (type.Lane lane.I8) = type.Lane lane.I16
double_of (type.Lane lane.I16) = type.Lane lane.I32
double_of (type.Lane lane.I32) = type.Lane lane.I64
double_of (type.Lane lane.I64) = type.Lane lane.I128
double_of _ = type.Invalid

-- the instruction is defined at this controlling type
abbrev pub is_met : Demand → «Type» → Bool
is_met demand.Nothing ty = true
is_met demand.AType ty = is_type ty
is_met demand.AnInteger ty = is_int ty
is_met demand.ADoubled ty = is_type (double_of ty)
is_met demand.AHalved ty = is_type (half_of ty)
is_met demand.AVector ty = is_vector ty && is_type ty

-- an address: an integer of 16, 32 or 64 bits
abbrev pub is_address : «Type» → Bool
is_address (type.Lane lane.I16) = true
is_address (type.Lane lane.I32) = true
is_address (type.Lane lane.I64) = true
is_address _ = false

-- an operand of this kind may have this type, at a controlling type
abbrev pub IsOfKind : «Type» → OperandKind → «Type» → Type 0
IsOfKind ty operand.Controlling found = found ≡ ty
IsOfKind ty operand.AnInteger found = IsTrue (is_int found)
IsOfKind ty operand.Narrower found = IsTrue (is_int found) × (bits_of found < bits_of ty)
IsOfKind ty operand.Wider found = IsTrue (is_int found) × (bits_of ty < bits_of found)
IsOfKind ty operand.Lane found = found ≡ lane_type_of ty
IsOfKind ty operand.Address found = IsTrue (is_address found)
IsOfKind ty (operand.Exactly exact) found = found ≡ exact

-- the type of a result of this kind
abbrev pub result_type : «Type» → ResultKind → «Type»
result_type ty kind.Controlling = ty
result_type ty kind.Half = half_of ty
result_type ty kind.Double = double_of ty
result_type ty (kind.Exactly exact) = exact
