-- A test whether two types are one; that it tells so is a law. Own.
use Rattle.std.specs.Prelude.{◌≡◌, ℕ, ◌==◌, ◌&&◌, Bool, true, false, IsTrue, ◌↔◌, List, [], ◌∷◌}
use Rattle.clif_types.specs.declared.types.LaneType.{LaneType}
use Rattle.clif_types.specs.declared.types.LaneType.TheVariants as lane
use Rattle.clif_types.specs.declared.types.«Type».{«Type»}
use Rattle.clif_types.specs.declared.types.«Type».TheVariants as type
use Rattle.clif_types.specs.Types.{lanes_of}

-- a number for each kind of lane
abbrev pub lane_number : LaneType → ℕ
lane_number lane.I8 = 0
lane_number lane.I16 = 1
lane_number lane.I32 = 2
lane_number lane.I64 = 3
lane_number lane.I128 = 4
lane_number lane.F16 = 5
lane_number lane.F32 = 6
lane_number lane.F64 = 7
lane_number lane.F128 = 8

abbrev pub same_lane : LaneType → LaneType → Bool
same_lane a b = lane_number a == lane_number b

abbrev pub same_type : «Type» → «Type» → Bool
same_type type.Invalid type.Invalid = true
same_type (type.Lane a) (type.Lane b) = same_lane a b
same_type (type.Vector a m) (type.Vector b n) = same_lane a b && (lanes_of m == lanes_of n)
same_type _ _ = false

-- the same of lists of types
abbrev pub same_types : List «Type» → List «Type» → Bool
same_types [] [] = true
same_types (a ∷ types) (b ∷ others) = same_type a b && same_types types others
same_types _ _ = false

-- the test says whether the types are one
abbrev pub SameTypeDecides : Type 0
SameTypeDecides = (a b : «Type») → IsTrue (same_type a b) ↔ (a ≡ b)
