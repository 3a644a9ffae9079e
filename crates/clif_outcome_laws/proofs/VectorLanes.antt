-- Values as lists of lanes.
use Rattle.std.proofs.Common.{◌≡◌, ◌+◌, ◌*◌, ◌/◌, ◌%◌, ◌^◌, ◌<◌, ◌++◌, ℕ, zero, suc, List, [], ◌∷◌, length, replicate, refl, sym, ◌∙◌, ap, arith, subst}
use Rattle.std.specs.List.{flat_map}
use Rattle.std.proofs.Math.Nat.{div-lt_iff_lt-mul, div-div-eq-div-mul, mod-add-div, mod-lt, mod-eq_of_lt, suc-add, suc-mul, zero-mul, one-mul, div-one, zero-mod, zero-div}
use Rattle.std.proofs.Math.Pow.{mod-mod-pow}
use Rattle.std.proofs.lemmas.Nat.{pow_pos, pow-add, mul-add-lt, mod_low, shr_high, field_of}
use Rattle.clif_types.specs.declared.types.LaneType.{LaneType}
use Rattle.clif_types.specs.declared.types.LaneType.TheVariants.{I8, I16, I32, I64, I128, F16, F32, F64, F128}
use Rattle.clif_types.specs.declared.types.«Type».{«Type»}
use Rattle.clif_types.specs.declared.types.«Type».TheVariants.{Invalid, Lane, Vector}
use Rattle.clif_types.specs.Types.{bits_of, bytes_of, lane_bits_of, lane_count_of, lane_type_of}
use Rattle.clif_meaning.specs.Bits.{Bits, HasWidth, value_bytes}
use Rattle.clif_meaning.specs.Outcome.{repeated}
use Rattle.clif_outcome_laws.specs.Lanes.{AreLanes, AreListsOfLanes, VectorsAreLanes, lanes_at, value_lanes, value_of_lanes}

-- one lane more
one_more : (count width : ℕ) → 2 ^ (suc count * width) ≡ 2 ^ (count * width) * 2 ^ width
one_more count width = ap (λ (n : ℕ). 2 ^ n) (suc-mul count width) ∙ pow-add 2 (count * width) width

-- no lanes
none : (width : ℕ) → 2 ^ (0 * width) ≡ 1
none width = ap (λ (n : ℕ). 2 ^ n) (zero-mul width)

turned : (low n high : ℕ) → low + n * high ≡ high * n + low
turned low n high = omega arith

-- a lane with lanes above it: its low bits, what stands above, and its width
lowest : (width low high : ℕ) → low < 2 ^ width → (low + 2 ^ width * high) % 2 ^ width ≡ low
lowest width low high low_is = ap (λ (n : ℕ). n % 2 ^ width) (turned low (2 ^ width) high) ∙ mod_low high width low low_is

above : (width low high : ℕ) → low < 2 ^ width → (low + 2 ^ width * high) / 2 ^ width ≡ high
above width low high low_is = ap (λ (n : ℕ). n / 2 ^ width) (turned low (2 ^ width) high) ∙ shr_high high width low low_is

fits : (count width low high : ℕ) → low < 2 ^ width → high < 2 ^ (count * width) → low + 2 ^ width * high < 2 ^ (suc count * width)
fits count width low high low_is high_is =
    rw (one_more count width ∙ swapped (2 ^ (count * width)) (2 ^ width), turned low (2 ^ width) high)
    (mul-add-lt high (2 ^ width) low (2 ^ (count * width)) high_is low_is)
  where
    swapped : (n m : ℕ) → n * m ≡ m * n
    swapped n m = omega arith

pub spelled : (count width bits : ℕ) → HasWidth (count * width) bits → value_of_lanes width (value_lanes count width bits) ≡ bits
spelled zero width bits is = omega (arith, none width, is)
spelled (suc count) width bits is =
    let high : bits / 2 ^ width < 2 ^ (count * width) = (div-lt_iff_lt-mul (pow_pos width)).1 (subst (λ (n : ℕ). bits < n) (one_more count width) is) in
    ap (λ (n : ℕ). bits % 2 ^ width + 2 ^ width * n) (spelled count width (bits / 2 ^ width) high) ∙ mod-add-div bits (2 ^ width)

pub listed : (width : ℕ) (lanes : List Bits) → AreLanes width lanes → value_lanes (length lanes) width (value_of_lanes width lanes) ≡ lanes
listed width [] are = refl
listed width (lane ∷ lanes) are =
    rw (lowest width lane (value_of_lanes width lanes) are.0, above width lane (value_of_lanes width lanes) are.0)
    (ap (λ (rest : List Bits). lane ∷ rest) (listed width lanes are.1))

pub as_many : (count width bits : ℕ) → length (value_lanes count width bits) ≡ count
as_many zero width bits = refl
as_many (suc count) width bits = ap suc (as_many count width (bits / 2 ^ width))

pub are_lanes : (count width bits : ℕ) → AreLanes width (value_lanes count width bits)
are_lanes zero width bits = tt
are_lanes (suc count) width bits = (mod-lt bits (pow_pos width), are_lanes count width (bits / 2 ^ width))

pub in_range : (width : ℕ) (lanes : List Bits) → AreLanes width lanes → HasWidth (length lanes * width) (value_of_lanes width lanes)
in_range width [] are = omega (arith, none width)
in_range width (lane ∷ lanes) are = fits (length lanes) width lane (value_of_lanes width lanes) are.0 (in_range width lanes are.1)

-- A number in every lane.
repeated_fits : (count width x : ℕ) → x < 2 ^ width → repeated count width x < 2 ^ (count * width)
repeated_fits zero width x is = omega (arith, none width)
repeated_fits (suc count) width x is = fits count width x (repeated count width x) is (repeated_fits count width x is)

repeated_lanes : (count width x : ℕ) → x < 2 ^ width → value_lanes count width (repeated count width x) ≡ replicate count x
repeated_lanes zero width x is = refl
repeated_lanes (suc count) width x is =
    rw (lowest width x (repeated count width x) is, above width x (repeated count width x) is)
    (ap (λ (rest : List Bits). x ∷ rest) (repeated_lanes count width x is))

pub filled : (count width x : ℕ) → x < 2 ^ width → value_lanes count width (repeated count width x % 2 ^ (count * width)) ≡ replicate count x
filled count width x is =
    ap (value_lanes count width) (mod-eq_of_lt (repeated_fits count width x is)) ∙ repeated_lanes count width x is

-- The bytes of lanes.
eight_more : (size : ℕ) → 8 * suc size ≡ 8 * size + 8
eight_more size = omega arith

wider : (size : ℕ) → 256 * 2 ^ (8 * size) ≡ 2 ^ (8 * suc size)
wider size = omega (arith, ap (λ (n : ℕ). 2 ^ n) (eight_more size), pow-add 2 (8 * size) 8)

-- the lowest bytes of a number are the bytes of its low bits
low_bytes : (size bits : ℕ) → value_bytes size (bits % 2 ^ (8 * size)) ≡ value_bytes size bits
low_bytes zero bits = refl
low_bytes (suc size) bits =
    let byte : bits % 2 ^ (8 * size + 8) % 256 ≡ bits % 256 = mod-mod-pow bits (8 * size) 8 in
    let rest : bits % 2 ^ (8 * size + 8) / 256 ≡ bits / 256 % 2 ^ (8 * size) = field_of bits (8 * size) 8 in
    rw (eight_more size, byte, rest) (ap (λ (bytes : List ℕ). (bits % 256) ∷ bytes) (low_bytes size (bits / 256)))

-- bytes are the lower ones and then the upper ones
joined_bytes : (size more bits : ℕ) → value_bytes (size + more) bits ≡ value_bytes size bits ++ value_bytes more (bits / 2 ^ (8 * size))
joined_bytes zero more bits =
    let all : bits / 1 ≡ bits = div-one bits in
    let same : 0 + more ≡ more = omega arith in
    rw (same, all) refl
joined_bytes (suc size) more bits =
    let above : bits / 256 / 2 ^ (8 * size) ≡ bits / 2 ^ (8 * suc size) =
    div-div-eq-div-mul bits 256 (2 ^ (8 * size)) ∙ ap (λ (n : ℕ). bits / n) (wider size) in
    rw (suc-add size more)
    (ap (λ (bytes : List ℕ). (bits % 256) ∷ bytes)
    (joined_bytes size more (bits / 256) ∙ ap (λ (n : ℕ). value_bytes size (bits / 256) ++ value_bytes more n) above))

pub bytes : (count size bits : ℕ) → value_bytes (count * size) bits ≡ flat_map (value_bytes size) (value_lanes count (8 * size) bits)
bytes zero size bits = rw (zero-mul size) refl
bytes (suc count) size bits =
    let first : suc count * size ≡ size + count * size = omega (arith, suc-mul count size) in
    rw (first, low_bytes size bits)
    (joined_bytes size (count * size) bits
    ∙ ap (λ (rest : List ℕ). value_bytes size bits ++ rest) (bytes count size (bits / 2 ^ (8 * size))))

-- THE LAW ---------------------------------------------------------------------------------------------------------------

at_widths : (count width : ℕ) → AreListsOfLanes (count * width) count width
at_widths count width = record {
  spelled = spelled count width;
  listed = λ lanes many are. subst (λ (n : ℕ). value_lanes n width (value_of_lanes width lanes) ≡ lanes) many (listed width lanes are);
  as_many = as_many count width;
  are_lanes = are_lanes count width;
  in_range = λ lanes many are. subst (λ (n : ℕ). HasWidth (n * width) (value_of_lanes width lanes)) many (in_range width lanes are);
}

-- a type is as wide as its lanes together
whole_width : (ty : «Type») → lane_count_of ty * bits_of (lane_type_of ty) ≡ bits_of ty
whole_width Invalid = refl
whole_width (Lane lane) = one-mul (lane_bits_of lane)
whole_width (Vector lane count) = refl

at_types : (ty : «Type») → AreListsOfLanes (bits_of ty) (lane_count_of ty) (bits_of (lane_type_of ty))
at_types ty =
    subst (λ (n : ℕ). AreListsOfLanes n (lane_count_of ty) (bits_of (lane_type_of ty))) (whole_width ty)
    (at_widths (lane_count_of ty) (bits_of (lane_type_of ty)))

-- a lane is whole bytes
whole_lane : (lane : LaneType) → 8 * (lane_bits_of lane / 8) ≡ lane_bits_of lane
whole_lane I8 = refl
whole_lane I16 = refl
whole_lane I32 = refl
whole_lane I64 = refl
whole_lane I128 = refl
whole_lane F16 = refl
whole_lane F32 = refl
whole_lane F64 = refl
whole_lane F128 = refl

whole_bytes : (ty : «Type») → 8 * bytes_of (lane_type_of ty) ≡ bits_of (lane_type_of ty)
whole_bytes Invalid = refl
whole_bytes (Lane lane) = whole_lane lane
whole_bytes (Vector lane count) = whole_lane lane

-- the bytes of a type are those of its lanes together
type_bytes : (ty : «Type») → bytes_of ty ≡ lane_count_of ty * bytes_of (lane_type_of ty)
type_bytes ty =
    let wide = whole_width ty in
    let eight = whole_bytes ty in
    ap (λ (n : ℕ). n / 8) (sym wide ∙ ap (λ (n : ℕ). lane_count_of ty * n) (sym eight)) ∙ eighth (lane_count_of ty) (bytes_of (lane_type_of ty))
  where
    eighth : (n m : ℕ) → n * (8 * m) / 8 ≡ n * m
    eighth n m = omega arith

in_memory : (ty : «Type») (bits : Bits) → value_bytes (bytes_of ty) bits ≡ flat_map (value_bytes (bytes_of (lane_type_of ty))) (lanes_at ty bits)
in_memory ty bits =
    ap (λ (n : ℕ). value_bytes n bits) (type_bytes ty)
    ∙ bytes (lane_count_of ty) (bytes_of (lane_type_of ty)) bits
    ∙ ap (λ (n : ℕ). flat_map (value_bytes (bytes_of (lane_type_of ty))) (value_lanes (lane_count_of ty) n bits)) (whole_bytes ty)

zeros : (count width : ℕ) → value_lanes count width 0 ≡ replicate count 0
zeros zero width = refl
zeros (suc count) width = rw (zero-mod (2 ^ width), zero-div (2 ^ width)) (ap (λ (rest : List Bits). 0 ∷ rest) (zeros count width))

pub vectors_are_lanes : VectorsAreLanes
vectors_are_lanes = record {
  at_widths = at_widths;
  at_types = at_types;
  in_memory = in_memory;
  zeros = λ ty. zeros (lane_count_of ty) (bits_of (lane_type_of ty));
  splat = λ ty types x is. (
    _,
    refl,
    mod-lt _ (pow_pos (bits_of ty)),
    subst (λ (n : ℕ). lanes_at ty (repeated (lane_count_of ty) (bits_of (lane_type_of ty)) x % 2 ^ n) ≡ replicate (lane_count_of ty) x)
        (whole_width ty) (filled (lane_count_of ty) (bits_of (lane_type_of ty)) x is),
  );
}
