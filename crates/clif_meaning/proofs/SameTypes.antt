-- The test of types tells which are one.
use Rattle.std.proofs.Common.{◌≡◌, ◌==◌, ℕ, true, if◌then◌else◌, List, [], ◌∷◌, refl, sym, ◌∙◌, ap, ap₂}
use Rattle.std.proofs.lemmas.Bool.{and_parts, eq-eqb, eqb-true}
use Rattle.clif_types.specs.declared.types.LaneCount.{LaneCount}
use Rattle.clif_types.specs.declared.types.LaneCount.TheVariants as count
use Rattle.clif_types.specs.declared.types.LaneType.{LaneType}
use Rattle.clif_types.specs.declared.types.LaneType.TheVariants as lane
use Rattle.clif_types.specs.declared.types.«Type».{«Type»}
use Rattle.clif_types.specs.declared.types.«Type».TheVariants as type
use Rattle.clif_types.specs.Types.{lanes_of}
use Rattle.clif_meaning.specs.SameType.{lane_number, same_lane, same_type, same_types}

lane_of : ℕ → LaneType
lane_of n =
    if n == 0 then lane.I8
    else if n == 1 then lane.I16
    else if n == 2 then lane.I32
    else if n == 3 then lane.I64
    else if n == 4 then lane.I128
    else if n == 5 then lane.F16
    else if n == 6 then lane.F32
    else if n == 7 then lane.F64
    else lane.F128

lane_back : (l : LaneType) → lane_of (lane_number l) ≡ l
unfolding lane_of
lane_back lane.I8 = refl
lane_back lane.I16 = refl
lane_back lane.I32 = refl
lane_back lane.I64 = refl
lane_back lane.I128 = refl
lane_back lane.F16 = refl
lane_back lane.F32 = refl
lane_back lane.F64 = refl
lane_back lane.F128 = refl

count_of : ℕ → LaneCount
count_of n =
    if n == 2 then count.Two
    else if n == 4 then count.Four
    else if n == 8 then count.Eight
    else if n == 16 then count.Sixteen
    else if n == 32 then count.ThirtyTwo
    else count.SixtyFour

count_back : (n : LaneCount) → count_of (lanes_of n) ≡ n
unfolding count_of
count_back count.Two = refl
count_back count.Four = refl
count_back count.Eight = refl
count_back count.Sixteen = refl
count_back count.ThirtyTwo = refl
count_back count.SixtyFour = refl

lanes_are : (a b : LaneType) → same_lane a b ≡ true → a ≡ b
lanes_are a b same = sym (lane_back a) ∙ ap lane_of (eqb-true (lane_number a) (lane_number b) same) ∙ lane_back b

pub type_is : (a b : «Type») → same_type a b ≡ true → a ≡ b
type_is type.Invalid type.Invalid same = refl
type_is type.Invalid (type.Lane l) same = let no_way : ⊥ = cc in absurd no_way
type_is type.Invalid (type.Vector l n) same = let no_way : ⊥ = cc in absurd no_way
type_is (type.Lane k) type.Invalid same = let no_way : ⊥ = cc in absurd no_way
type_is (type.Lane k) (type.Lane l) same = ap type.Lane (lanes_are k l same)
type_is (type.Lane k) (type.Vector l n) same = let no_way : ⊥ = cc in absurd no_way
type_is (type.Vector k m) type.Invalid same = let no_way : ⊥ = cc in absurd no_way
type_is (type.Vector k m) (type.Lane l) same = let no_way : ⊥ = cc in absurd no_way
type_is (type.Vector k m) (type.Vector l n) same =
    let parts = and_parts (same_lane k l) (lanes_of m == lanes_of n) same in
    let counts : m ≡ n = sym (count_back m) ∙ ap count_of (eqb-true (lanes_of m) (lanes_of n) parts.1) ∙ count_back n in
    ap₂ type.Vector (lanes_are k l parts.0) counts

pub same_type_refl : (a : «Type») → same_type a a ≡ true
same_type_refl type.Invalid = refl
same_type_refl (type.Lane l) = eq-eqb (lane_number l) (lane_number l) refl
same_type_refl (type.Vector l n) = rw (eq-eqb (lane_number l) (lane_number l) refl, eq-eqb (lanes_of n) (lanes_of n) refl) refl

pub types_are : (types others : List «Type») → same_types types others ≡ true → types ≡ others
types_are [] [] same = refl
types_are [] (b ∷ others) same = let no_way : ⊥ = cc in absurd no_way
types_are (a ∷ types) [] same = let no_way : ⊥ = cc in absurd no_way
types_are (a ∷ types) (b ∷ others) same =
    let parts = and_parts (same_type a b) (same_types types others) same in
    ap₂ (λ (t : «Type») (ts : List «Type»). t ∷ ts) (type_is a b parts.0) (types_are types others parts.1)

pub same_types_refl : (types : List «Type») → same_types types types ≡ true
same_types_refl [] = refl
same_types_refl (a ∷ types) = rw (same_type_refl a, same_types_refl types) refl
