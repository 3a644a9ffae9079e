-- Numbers of two widths: halves, extension and reduction.
use Rattle.std.proofs.Common.{◌≡◌, ◌+◌, ◌-◌, ◌*◌, ◌/◌, ◌%◌, ◌^◌, ◌<◌, ◌≤◌, ℕ, zero, suc, [], ◌∷◌, Bool, true, false, if◌then◌else◌, refl, sym, ◌∙◌, ap, arith, subst, ◌⊎◌, inl, inr}
use Rattle.std.specs.Prelude.{pos, negsuc, IsTrue}
use Rattle.std.proofs.Math.Nat.{div-lt_iff_lt-mul, mod-add-div, mod-lt, mod-eq_of_lt, pow-suc}
use Rattle.std.proofs.lemmas.Bool.{leb-true, le-leb, lt-leb, cases_lt}
use Rattle.std.proofs.lemmas.Nat.{pow_pos, pow-add, pow_below, mul-add-lt, mod_low, shr_high}
use Rattle.clif_types.specs.declared.types.LaneType.TheVariants as lane
use Rattle.clif_types.specs.declared.types.«Type».{«Type»}
use Rattle.clif_types.specs.declared.types.«Type».TheVariants as type
use Rattle.clif_types.specs.Types.{bits_of, is_int}
use Rattle.clif_meaning.specs.Bits.{Bits, HasWidth, IsValue, wrapped}
use Rattle.clif_meaning.specs.Outcome.{Values, is_negative, sign_extended}
use Rattle.clif_outcome_laws.specs.Integers.{signed_number, HasHalves, HalvesAreParts, PartsMakeWhole}

-- a power is twice the one before
pub half : (width : ℕ) → 1 ≤ width → 2 ^ width ≡ 2 * 2 ^ (width - 1)
half zero some = absurd (omega (arith, some))
half (suc k) some =
    let before : suc k - 1 ≡ k = omega arith in
    rw before (pow-suc 2 k ∙ turned (2 ^ k))
  where
    turned : (n : ℕ) → n * 2 ≡ 2 * n
    turned n = omega arith

-- HALVES ----------------------------------------------------------------------------------------------------------------

-- both halves together aren't cut
uncut : (width low high : ℕ) → low < 2 ^ width → high < 2 ^ width → (low + 2 ^ width * high) % 2 ^ (width + width) ≡ high * 2 ^ width + low
uncut width low high low_is high_is =
    let turned : low + 2 ^ width * high ≡ high * 2 ^ width + low = omega arith in
    let below : high * 2 ^ width + low < 2 ^ (width + width) = subst (λ (n : ℕ). high * 2 ^ width + low < n) (sym (pow-add 2 width width)) (mul-add-lt high (2 ^ width) low (2 ^ width) high_is low_is) in
    ap (λ (n : ℕ). n % 2 ^ (width + width)) turned ∙ mod-eq_of_lt below

pub halves : (width low high : ℕ) → low < 2 ^ width → high < 2 ^ width → HasHalves width low high ((low + 2 ^ width * high) % 2 ^ (width + width))
halves width low high low_is high_is = (
  ap (λ (n : ℕ). n % 2 ^ width) (uncut width low high low_is high_is) ∙ mod_low high width low low_is,
  ap (λ (n : ℕ). n / 2 ^ width) (uncut width low high low_is high_is) ∙ shr_high high width low low_is,
)

pub halves_are_parts : HalvesAreParts
halves_are_parts (type.Lane lane.I8) types low high at low_is high_is = (_, refl, mod-lt _ (pow_pos 16), halves 8 low high low_is high_is)
halves_are_parts (type.Lane lane.I16) types low high at low_is high_is = (_, refl, mod-lt _ (pow_pos 32), halves 16 low high low_is high_is)
halves_are_parts (type.Lane lane.I32) types low high at low_is high_is = (_, refl, mod-lt _ (pow_pos 64), halves 32 low high low_is high_is)
halves_are_parts (type.Lane lane.I64) types low high at low_is high_is = (_, refl, mod-lt _ (pow_pos 128), halves 64 low high low_is high_is)
halves_are_parts _ types low high at low_is high_is = cc

-- the halves of a number of twice the width
parts : (width whole : ℕ) → whole < 2 ^ (width + width)
    → (whole % 2 ^ width < 2 ^ width) × ((whole / 2 ^ width) % 2 ^ width < 2 ^ width) × HasHalves width (whole % 2 ^ width) ((whole / 2 ^ width) % 2 ^ width) whole
    × ((whole % 2 ^ width + 2 ^ width * ((whole / 2 ^ width) % 2 ^ width)) % 2 ^ (width + width) ≡ whole)
parts width whole is =
    let high_is : whole / 2 ^ width < 2 ^ width = div_below whole (2 ^ width) (2 ^ width) (pow_pos width) (subst (λ (n : ℕ). whole < n) (pow-add 2 width width) is) in
    let high : (whole / 2 ^ width) % 2 ^ width ≡ whole / 2 ^ width = mod-eq_of_lt high_is in
    let joined : whole % 2 ^ width + 2 ^ width * (whole / 2 ^ width) ≡ whole = mod-add-div whole (2 ^ width) in (
      mod-lt whole (pow_pos width),
      mod-lt (whole / 2 ^ width) (pow_pos width),
      (refl, sym high),
      ap (λ (h : ℕ). (whole % 2 ^ width + 2 ^ width * h) % 2 ^ (width + width)) high ∙ ap (λ (n : ℕ). n % 2 ^ (width + width)) joined ∙ mod-eq_of_lt is,
    )
  where
    div_below : (x n m : ℕ) → 0 < n → x < n * m → x / n < m
    div_below x n m some below = (div-lt_iff_lt-mul some).1 (let turned : n * m ≡ m * n = omega arith in subst (λ (k : ℕ). x < k) turned below)

pub parts_make_whole : PartsMakeWhole
parts_make_whole (type.Lane lane.I16) types others whole at is = let p = parts 8 whole is in (_, _, refl, p.0, p.1, p.2, ap (λ (x : Bits). Values (x ∷ [])) p.3)
parts_make_whole (type.Lane lane.I32) types others whole at is = let p = parts 16 whole is in (_, _, refl, p.0, p.1, p.2, ap (λ (x : Bits). Values (x ∷ [])) p.3)
parts_make_whole (type.Lane lane.I64) types others whole at is = let p = parts 32 whole is in (_, _, refl, p.0, p.1, p.2, ap (λ (x : Bits). Values (x ∷ [])) p.3)
parts_make_whole (type.Lane lane.I128) types others whole at is = let p = parts 64 whole is in (_, _, refl, p.0, p.1, p.2, ap (λ (x : Bits). Values (x ∷ [])) p.3)
parts_make_whole _ types others whole at is = cc

-- SIGNED NUMBERS ----------------------------------------------------------------------------------------------------------

-- the number that bits mean, where they are negative and where they aren't
pub below_half : (width x : ℕ) → x < 2 ^ (width - 1) → signed_number width x ≡ pos x
below_half width x below = rw (lt-leb (2 ^ (width - 1)) x below) refl

pub from_half : (width x : ℕ) → 2 ^ (width - 1) ≤ x → signed_number width x ≡ negsuc (2 ^ width - 1 - x)
from_half width x above = rw (le-leb (2 ^ (width - 1)) x above) refl

pub bits_mean : (width : ℕ) (x : Bits) → 1 ≤ width → HasWidth width x → wrapped width (signed_number width x) ≡ x
bits_mean width x some is = by (is_negative width x) refl
  where
    by : (b : Bool) → is_negative width x ≡ b → wrapped width (signed_number width x) ≡ x
    by true negative = rw negative (inverse (2 ^ width) x is)
      where
        inverse : (whole n : ℕ) → n < whole → whole - 1 - (whole - 1 - n) % whole ≡ n
        inverse whole n below =
            let less : whole - 1 - n < whole = omega (arith, below) in
            let kept = mod-eq_of_lt less in
            rw kept (omega (arith, below))
    by false positive = rw positive (mod-eq_of_lt is)

-- EXTENSION ---------------------------------------------------------------------------------------------------------------

-- an integer has bits
pub has_bits : (ty : «Type») → IsTrue (is_int ty) → 1 ≤ bits_of ty
has_bits (type.Lane lane.I8) is = omega arith
has_bits (type.Lane lane.I16) is = omega arith
has_bits (type.Lane lane.I32) is = omega arith
has_bits (type.Lane lane.I64) is = omega arith
has_bits (type.Lane lane.I128) is = omega arith
has_bits _ is = cc

-- half of the wider width is no less than the whole narrower one
wider : (from to : ℕ) → from < to → 2 ^ from ≤ 2 ^ (to - 1)
wider from to narrower = by (cases_lt from (to - 1))
  where
    by : (from < to - 1) ⊎ (to - 1 ≤ from) → 2 ^ from ≤ 2 ^ (to - 1)
    by (inl less) = omega (arith, pow_below from (to - 1) less)
    by (inr no_less) =
        let same : to - 1 ≡ from = omega (arith, no_less, narrower) in
        rw same (omega arith)

-- the extended number isn't cut
extended_uncut : (from to x : ℕ) → 1 ≤ from → from < to → x < 2 ^ from → sign_extended from to x % 2 ^ to ≡ sign_extended from to x
extended_uncut from to x some narrower is = mod-eq_of_lt (by (is_negative from x))
  where
    more : 2 ^ from < 2 ^ to
    more = pow_below from to narrower

    by : (b : Bool) → (if b then 2 ^ to - (2 ^ from - x) else x) < 2 ^ to
    by true = omega (arith, more, is)
    by false = omega (arith, more, is)

pub extended : (from to x : ℕ) → 1 ≤ from → from < to → x < 2 ^ from → signed_number to (sign_extended from to x % 2 ^ to) ≡ signed_number from x
extended from to x some narrower is = ap (signed_number to) (extended_uncut from to x some narrower is) ∙ by (is_negative from x) refl
  where
    wide : 2 ^ from ≤ 2 ^ (to - 1)
    wide = wider from to narrower

    by : (b : Bool) → is_negative from x ≡ b → signed_number to (sign_extended from to x) ≡ signed_number from x
    by true negative =
        let above : 2 ^ (from - 1) ≤ x = leb-true (2 ^ (from - 1)) x negative in
        let whole : 2 ^ to ≡ 2 * 2 ^ (to - 1) = half to (omega (arith, narrower)) in
        let high : 2 ^ (to - 1) ≤ 2 ^ to - (2 ^ from - x) = omega (arith, whole, wide) in
        let same : 2 ^ to - 1 - (2 ^ to - (2 ^ from - x)) ≡ 2 ^ from - 1 - x = omega (arith, whole, wide, is) in
        rw negative (from_half to (2 ^ to - (2 ^ from - x)) high ∙ ap negsuc same)
    by false positive =
        let below : x < 2 ^ (to - 1) = omega (arith, wide, is) in
        rw positive (below_half to x below)

-- a value of a narrower type is one of the wider type
pub narrow : (from to : «Type») (x : Bits) → bits_of from < bits_of to → IsValue from x → IsValue to x
narrow from to x narrower is = omega (arith, pow_below (bits_of from) (bits_of to) narrower, is)
