-- The lanes of vectors: a value of a vector is the list of its lanes, lowest first, each as wide as a lane of the type;
-- memory holds them in that order; `splat` puts its operand into every lane. A scalar is its one lane. After the
-- documentation of Cranelift's vector types and of `splat`.
use Rattle.std.specs.Prelude.{◌≡◌, ◌≢◌, ℕ, zero, suc, ◌+◌, ◌*◌, ◌/◌, ◌%◌, ◌^◌, List, [], ◌∷◌, length, replicate}
use Rattle.std.specs.List.{AllByRecursion, flat_map}
use Rattle.clif_opcodes.specs.declared.opcodes.ConvertOpcode.TheVariants.{Splat}
use Rattle.clif_types.specs.declared.types.LaneCount.TheVariants.{Two, Four}
use Rattle.clif_types.specs.declared.types.LaneType.{LaneType}
use Rattle.clif_types.specs.declared.types.LaneType.TheVariants.{I8, I16, I32, F32}
use Rattle.clif_types.specs.declared.types.«Type».{«Type»}
use Rattle.clif_types.specs.declared.types.«Type».TheVariants.{Lane, Vector}
use Rattle.clif_types.specs.Types.{bits_of, bytes_of, lane_count_of, lane_type_of}
use Rattle.clif_meaning.specs.Bits.{Bits, HasWidth, IsValue, value_bytes}
use Rattle.clif_meaning.specs.Instruction.{Convert}
use Rattle.clif_meaning.specs.Outcome.{Computed, Values, computed}
use Rattle.clif_outcome_laws.specs.Integers.{Yields}

-- each number is a lane of this width
abbrev pub AreLanes : (width : ℕ) → List Bits → Type 0
AreLanes width = AllByRecursion (λ lane. HasWidth width lane)

-- so many lanes of a number, each of this width, lowest first
abbrev pub value_lanes : (count width : ℕ) → Bits → List Bits
value_lanes zero width bits = []
value_lanes (suc count) width bits = (bits % 2 ^ width) ∷ value_lanes count width (bits / 2 ^ width)

-- the number that lanes of this width make, lowest first
abbrev pub value_of_lanes : (width : ℕ) → List Bits → Bits
value_of_lanes width [] = 0
value_of_lanes width (lane ∷ lanes) = lane + 2 ^ width * value_of_lanes width lanes

-- The numbers below 2 to the whole width are the lists of so many lanes of one width: each such number is made by its
-- lanes, each such list is the lanes of the number that it makes, and neither leaves its range.
pub record AreListsOfLanes (whole count width : ℕ) : Type 0 where
  pub spelled : (bits : Bits) → HasWidth whole bits → value_of_lanes width (value_lanes count width bits) ≡ bits
  pub listed : (lanes : List Bits) → length lanes ≡ count → AreLanes width lanes
      → value_lanes count width (value_of_lanes width lanes) ≡ lanes
  pub as_many : (bits : Bits) → length (value_lanes count width bits) ≡ count
  pub are_lanes : (bits : Bits) → AreLanes width (value_lanes count width bits)
  pub in_range : (lanes : List Bits) → length lanes ≡ count → AreLanes width lanes → HasWidth whole (value_of_lanes width lanes)

-- the lanes of a value of a type
abbrev pub lanes_at : «Type» → Bits → List Bits
lanes_at ty bits = value_lanes (lane_count_of ty) (bits_of (lane_type_of ty)) bits

-- Values are the lists of their lanes, at each count and width of lanes and so at each type.
pub record VectorsAreLanes : Type 0 where
  pub at_widths : (count width : ℕ) → AreListsOfLanes (count * width) count width
  pub at_types : (ty : «Type») → AreListsOfLanes (bits_of ty) (lane_count_of ty) (bits_of (lane_type_of ty))
  -- the bytes of a value are those of its lanes, one lane after another
  pub in_memory : (ty : «Type») (bits : Bits)
      → value_bytes (bytes_of ty) bits ≡ flat_map (value_bytes (bytes_of (lane_type_of ty))) (lanes_at ty bits)
  -- the lanes of zero are zero
  pub zeros : (ty : «Type») → lanes_at ty 0 ≡ replicate (lane_count_of ty) 0
  -- `splat` gives the value whose lanes are all its operand
  pub splat : (ty : «Type») (types : List «Type») (x : Bits) → IsValue (lane_type_of ty) x
      → Yields (Convert Splat) ty ty types (x ∷ []) (λ y. lanes_at ty y ≡ replicate (lane_count_of ty) x)

-- types of the worked examples
abbrev pub i8x4 : «Type»
i8x4 = Vector I8 Four

abbrev pub i16x2 : «Type»
i16x2 = Vector I16 Two

abbrev pub f32x2 : «Type»
f32x2 = Vector F32 Two

-- `splat` of an operand
abbrev pub splat : (ty : «Type») → LaneType → Bits → Computed
splat ty lane x = computed (Convert Splat) ty (Lane lane ∷ []) (x ∷ [])

-- Worked examples: hexadecimal 4030201 is 67305985, 0201 is 513 and 0403 is 1027; 70007 is 458759; 3f800000 is 1065353216,
-- the bits of 1.0.
pub record LaneExamples : Type 0 where
  pub bytes : lanes_at i8x4 67305985 ≡ 1 ∷ 2 ∷ 3 ∷ 4 ∷ []
  pub not_reversed : lanes_at i8x4 67305985 ≢ 4 ∷ 3 ∷ 2 ∷ 1 ∷ []
  pub pairs : lanes_at i16x2 67305985 ≡ 513 ∷ 1027 ∷ []
  pub one_lane : lanes_at (Lane I32) 67305985 ≡ 67305985 ∷ []
  pub made : value_of_lanes 8 (1 ∷ 2 ∷ 3 ∷ 4 ∷ []) ≡ 67305985
  pub stored : value_bytes 4 67305985 ≡ 1 ∷ 2 ∷ 3 ∷ 4 ∷ []
  pub splat_pair : splat i16x2 I16 7 ≡ Values (458759 ∷ [])
  pub not_one_lane : splat i16x2 I16 7 ≢ Values (7 ∷ [])
  pub splat_float : splat f32x2 F32 1065353216 ≡ Values (4575657222473777152 ∷ [])
