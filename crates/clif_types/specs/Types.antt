-- Types of the IR: a lane, or a vector of 2, 4, 8, 16, 32 or 64 equal lanes.
-- After the documentation of Cranelift's `ir::Type`.
use Rattle.std.specs.Prelude.{ℕ, ◌≡◌, ◌≤◌, ◌*◌, ◌/◌, ◌-◌, ◌^◌, Bool, true, false, nat_le, IsTrue, Option, Some, None, ◌==◌, if◌then◌else◌}
use Rattle.clif_types.specs.declared.types.LaneType.{LaneType}
use Rattle.clif_types.specs.declared.types.LaneType.TheVariants as lane
use Rattle.clif_types.specs.declared.types.LaneCount.{LaneCount}
use Rattle.clif_types.specs.declared.types.LaneCount.TheVariants as count
use Rattle.clif_types.specs.declared.types.«Type».{«Type»}
use Rattle.clif_types.specs.declared.types.«Type».TheVariants as type

-- the width of a lane in bits
abbrev pub lane_bits_of : LaneType → ℕ
lane_bits_of lane.I8 = 8
lane_bits_of lane.I16 = 16
lane_bits_of lane.I32 = 32
lane_bits_of lane.I64 = 64
lane_bits_of lane.I128 = 128
lane_bits_of lane.F16 = 16
lane_bits_of lane.F32 = 32
lane_bits_of lane.F64 = 64
lane_bits_of lane.F128 = 128

-- the lane is an integer, and not the bits of a float
abbrev pub is_int_lane : LaneType → Bool
is_int_lane lane.I8 = true
is_int_lane lane.I16 = true
is_int_lane lane.I32 = true
is_int_lane lane.I64 = true
is_int_lane lane.I128 = true
is_int_lane lane.F16 = false
is_int_lane lane.F32 = false
is_int_lane lane.F64 = false
is_int_lane lane.F128 = false

-- how many lanes
abbrev pub lanes_of : LaneCount → ℕ
lanes_of count.Two = 2
lanes_of count.Four = 4
lanes_of count.Eight = 8
lanes_of count.Sixteen = 16
lanes_of count.ThirtyTwo = 32
lanes_of count.SixtyFour = 64

-- the width in bits: of a vector all lanes together, of the invalid type 0
abbrev pub bits_of : «Type» → ℕ
bits_of type.Invalid = 0
bits_of (type.Lane l) = lane_bits_of l
bits_of (type.Vector l n) = lanes_of n * lane_bits_of l

-- the width in bytes
abbrev pub bytes_of : «Type» → ℕ
bytes_of t = bits_of t / 8

-- the type of one lane; a lane, and the invalid type, is its own
abbrev pub lane_type_of : «Type» → «Type»
lane_type_of type.Invalid = type.Invalid
lane_type_of (type.Lane l) = type.Lane l
lane_type_of (type.Vector l n) = type.Lane l

-- how many lanes, 1 unless it is a vector
abbrev pub lane_count_of : «Type» → ℕ
lane_count_of type.Invalid = 1
lane_count_of (type.Lane l) = 1
lane_count_of (type.Vector l n) = lanes_of n

-- a single integer
abbrev pub is_int : «Type» → Bool
is_int type.Invalid = false
is_int (type.Lane l) = is_int_lane l
is_int (type.Vector l n) = false

-- more than one lane
abbrev pub is_vector : «Type» → Bool
is_vector type.Invalid = false
is_vector (type.Lane l) = false
is_vector (type.Vector l n) = true

-- a type of the IR (own): each lane, and the vectors of at most 64 bytes; the invalid type stands
-- where an instruction has no controlling type, and is none
abbrev pub is_type : «Type» → Bool
is_type type.Invalid = false
is_type (type.Lane l) = true
is_type (type.Vector l n) = nat_le (bytes_of (type.Vector l n)) 64

abbrev pub IsType : «Type» → Type 0
IsType t = IsTrue (is_type t)

-- the integer type of a width in bits, if there is one
abbrev pub int_of : ℕ → Option «Type»
int_of bits = if bits == 8 then Some (type.Lane lane.I8) else (if bits == 16 then Some (type.Lane lane.I16) else (if bits == 32 then Some (type.Lane lane.I32) else (if bits == 64 then Some (type.Lane lane.I64) else (if bits == 128 then Some (type.Lane lane.I128) else None))))

-- each type is whole bytes
abbrev pub WholeBytes : Type 0
WholeBytes = (t : «Type») → 8 * bytes_of t ≡ bits_of t

-- a type of the IR has from 1 to 64 bytes
abbrev pub TypesAreSmall : Type 0
TypesAreSmall = (t : «Type») → IsType t → (1 ≤ bytes_of t) × (bytes_of t ≤ 64)

-- an integer type is found by its width
abbrev pub IntegersByWidth : Type 0
IntegersByWidth = (t : «Type») → IsTrue (is_int t) → int_of (bits_of t) ≡ Some t

-- the least number of a type's lanes as an unsigned bit pattern of 128 bits: signed it is negative, and
-- stands as 2^128 less its absolute value
abbrev pub least_of : «Type» → Bool → ℕ
least_of t false = 0
least_of t true = 2 ^ 128 - 2 ^ (bits_of (lane_type_of t) - 1)

-- the greatest number of a type's lanes
abbrev pub greatest_of : «Type» → Bool → ℕ
greatest_of t false = 2 ^ bits_of (lane_type_of t) - 1
greatest_of t true = 2 ^ (bits_of (lane_type_of t) - 1) - 1
