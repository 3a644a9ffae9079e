-- Division rounded toward zero, from signs and magnitudes.
use Rattle.std.proofs.Common.{◌≡◌, ◌+◌, ◌-◌, ◌*◌, ◌/◌, ◌%◌, ◌^◌, ◌<◌, ◌≤◌, ◌==◌, ◌&&◌, ℕ, zero, suc, Bool, true, false, not, if◌then◌else◌, refl, sym, ◌∙◌, ap, arith, ◌⊎◌, inl, inr}
use Rattle.std.specs.Prelude.{◌<ℤ◌, ◌+ℤ◌, ◌*ℤ◌, ◌↔◌, neg_ℤ, nat_abs, ℤ, pos, negsuc, Some, None}
use Rattle.std.proofs.Math.Nat.{mod-lt, mod-le, mod-eq_of_lt, mod_self}
use Rattle.std.proofs.Math.IntN.{pos-*ℤ-pos, pos-*ℤ-negsuc, negsuc-*ℤ-pos, negsuc-*ℤ-negsuc, pos-+ℤ-pos, neg_ℤ-+ℤ}
use Rattle.std.proofs.lemmas.Bool.{leb-true, leb-false, eq-eqb, eqb-false, and_from, cases_lt, cases_eq}
use Rattle.std.proofs.lemmas.Int.{ints}
use Rattle.std.proofs.lemmas.Nat.{pow_pos, div-add-mod', mul-le}
use Rattle.clif_types.specs.declared.trapcode.TrapCode.TheVariants.{DivisionByZero, IntegerOverflow}
use Rattle.clif_opcodes.specs.declared.opcodes.BinaryOpcode.TheVariants.{Udiv, Sdiv, Srem}
use Rattle.clif_meaning.specs.Bits.{Bits, HasWidth}
use Rattle.clif_meaning.specs.Outcome.{is_negative, magnitude, with_sign, binary_fault}
use Rattle.clif_outcome_laws.specs.Integers.{signed_number}
use Rattle.clif_outcome_laws.specs.Divisions.{IsDivided, signed_result}
use Rattle.clif_outcome_laws.proofs.Widths.{half, below_half, from_half}

-- the number with a sign and a magnitude
abbrev signed : Bool → ℕ → ℤ
signed true n = neg_ℤ (pos n)
signed false n = pos n

-- a magnitude that a number with this sign can have, where half of the numbers are so many
abbrev Fits : Bool → ℕ → ℕ → Type 0
Fits true n h = n ≤ h
Fits false n h = n < h

lesser_fits : (b : Bool) (m n h : ℕ) → m ≤ n → Fits b n h → Fits b m h
lesser_fits true m n h less fits = omega (arith, less, fits)
lesser_fits false m n h less fits = omega (arith, less, fits)

-- OF NUMBERS --------------------------------------------------------------------------------------------------------------

pos_neg : (m n : ℕ) → pos m *ℤ neg_ℤ (pos n) ≡ neg_ℤ (pos (m * n))
pos_neg m zero =
    let none : m * 0 ≡ 0 = omega arith in
    pos-*ℤ-pos m 0 ∙ ap pos none ∙ ap (λ (n : ℕ). neg_ℤ (pos n)) (sym none)
pos_neg m (suc n) = pos-*ℤ-negsuc m n

neg_pos : (m n : ℕ) → neg_ℤ (pos m) *ℤ pos n ≡ neg_ℤ (pos (m * n))
neg_pos zero n =
    let none : 0 * n ≡ 0 = omega arith in
    pos-*ℤ-pos 0 n ∙ ap pos none ∙ ap (λ (n : ℕ). neg_ℤ (pos n)) (sym none)
neg_pos (suc m) n = negsuc-*ℤ-pos m n

neg_neg : (m n : ℕ) → neg_ℤ (pos m) *ℤ neg_ℤ (pos n) ≡ pos (m * n)
neg_neg zero n =
    let none : 0 * n ≡ 0 = omega arith in
    pos_neg 0 n ∙ ap (λ (n : ℕ). neg_ℤ (pos n)) none ∙ ap pos (sym none)
neg_neg (suc m) zero =
    let none : suc m * 0 ≡ 0 = omega arith in
    neg_pos (suc m) 0 ∙ ap (λ (n : ℕ). neg_ℤ (pos n)) none ∙ ap pos (sym none)
neg_neg (suc m) (suc n) = negsuc-*ℤ-negsuc m n

-- the sign of a quotient of numbers with these signs
abbrev differ : Bool → Bool → Bool
differ s t = if s then not t else t

product : (s t : Bool) (q b : ℕ) → signed (differ s t) q *ℤ signed t b ≡ signed s (q * b)
product true true q b = pos_neg q b
product true false q b = neg_pos q b
product false true q b = neg_neg q b
product false false q b = pos-*ℤ-pos q b

sum : (s : Bool) (m n : ℕ) → signed s m +ℤ signed s n ≡ signed s (m + n)
sum true m n = sym (neg_ℤ-+ℤ (pos m) (pos n)) ∙ ap neg_ℤ (pos-+ℤ-pos m n)
sum false m n = pos-+ℤ-pos m n

absolute : (s : Bool) (n : ℕ) → nat_abs (signed s n) ≡ n
absolute true zero = refl
absolute true (suc n) = refl
absolute false n = refl

sign : (s : Bool) (r a : ℕ) → r ≤ a → (signed s r ≡ pos 0) ⊎ ((signed s r <ℤ pos 0) ↔ (signed s a <ℤ pos 0))
sign true zero a less = inl refl
sign false zero a less = inl refl
sign true (suc r) zero less = absurd (omega (arith, less))
sign true (suc r) (suc a) less = inr ((λ l. below a), (λ l. below r))
  where
    below : (n : ℕ) → negsuc n <ℤ pos 0
    below n = omega (arith, ints)
sign false (suc r) a less = inr ((λ l. absurd (not_below (suc r) l)), (λ l. absurd (not_below a l)))
  where
    not_below : (n : ℕ) → pos n <ℤ pos 0 → ⊥
    not_below n l = omega (arith, ints, l)

divided : (s t : Bool) (a b : ℕ) → 0 < b → IsDivided (signed s a) (signed t b) (signed (differ s t) (a / b)) (signed s (a % b))
divided s t a b some = record {
  sum =
      ap (λ (z : ℤ). z +ℤ signed s (a % b)) (product s t (a / b) b) ∙ sum s (a / b * b) (a % b) ∙ ap (signed s) (div-add-mod' a b);
  small = small;
  sign = sign s (a % b) a (mod-le a b);
}
  where
    small : nat_abs (signed s (a % b)) < nat_abs (signed t b)
    small = rw (absolute s (a % b), absolute t b) (mod-lt a some)

-- OF BITS -----------------------------------------------------------------------------------------------------------------

module _ (width : ℕ) (some : 1 ≤ width) where
  whole : 2 ^ width ≡ 2 * 2 ^ (width - 1)
  whole = half width some

  number_is : (x : Bits) → x < 2 ^ width → signed_number width x ≡ signed (is_negative width x) (magnitude width x)
  number_is x is = by (is_negative width x)
    where
      by : (b : Bool) → (if b then negsuc (2 ^ width - 1 - x) else pos x) ≡ signed b (if b then 2 ^ width - x else x)
      by true =
          let next : suc (2 ^ width - 1 - x) ≡ 2 ^ width - x = omega (arith, is) in
          ap (λ (n : ℕ). neg_ℤ (pos n)) next
      by false = refl

  magnitude_fits : (x : Bits) → x < 2 ^ width → Fits (is_negative width x) (magnitude width x) (2 ^ (width - 1))
  magnitude_fits x is = by (is_negative width x) refl
    where
      by : (b : Bool) → is_negative width x ≡ b → Fits b (if b then 2 ^ width - x else x) (2 ^ (width - 1))
      by true e = omega (arith, whole, leb-true (2 ^ (width - 1)) x e)
      by false e = leb-false (2 ^ (width - 1)) x e

  magnitude_some : (x : Bits) → x < 2 ^ width → (x ≡ 0 → ⊥) → 0 < magnitude width x
  magnitude_some x is not_zero = by (is_negative width x)
    where
      by : (b : Bool) → 0 < (if b then 2 ^ width - x else x)
      by true = omega (arith, is)
      by false = grind arith

  -- the bits with a sign and a magnitude mean the number with that sign and magnitude
  bits_are : (b : Bool) (n : ℕ) → Fits b n (2 ^ (width - 1)) → signed_number width (with_sign width b n % 2 ^ width) ≡ signed b n
  bits_are false n fits =
      let inside : n < 2 ^ width = omega (arith, whole, fits) in
      ap (signed_number width) (mod-eq_of_lt inside) ∙ below_half width n fits
  bits_are true zero fits =
      let kept : 2 ^ width - 0 ≡ 2 ^ width = omega arith in
      let none : (2 ^ width - 0) % 2 ^ width ≡ 0 = ap (λ (m : ℕ). m % 2 ^ width) kept ∙ mod_self (2 ^ width) in
      ap (signed_number width) none ∙ below_half width 0 (pow_pos (width - 1))
  bits_are true (suc n) fits =
      let inside : 2 ^ width - suc n < 2 ^ width = omega (arith, pow_pos width) in
      let high : 2 ^ (width - 1) ≤ 2 ^ width - suc n = omega (arith, whole, fits) in
      let back : 2 ^ width - 1 - (2 ^ width - suc n) ≡ n = omega (arith, whole, fits) in
      ap (signed_number width) (mod-eq_of_lt inside) ∙ from_half width (2 ^ width - suc n) high ∙ ap negsuc back

  -- a quotient is at most the dividend, and at most half of it where the divisor isn't 1
  no_greater : (a b : ℕ) → 0 < b → a / b ≤ a
  no_greater a b more =
      let once : a / b * 1 ≤ a / b * b = mul-le (a / b) 1 (a / b) b (omega arith) (omega (arith, more)) in
      omega (arith, once, div-add-mod' a b)

  halved : (a b : ℕ) → 1 < b → a / b * 2 ≤ a
  halved a b more =
      let twice : a / b * 2 ≤ a / b * b = mul-le (a / b) 2 (a / b) b (omega arith) (omega (arith, more)) in
      omega (arith, twice, div-add-mod' a b)

  quotient_fits : (s t : Bool) (a b : ℕ) → 0 < b → Fits s a (2 ^ (width - 1)) → (s ≡ true → t ≡ true → a ≡ 2 ^ (width - 1) → b ≡ 1 → ⊥) → Fits (differ s t) (a / b) (2 ^ (width - 1))
  quotient_fits false false a b more fits not_least = omega (arith, no_greater a b more, fits)
  quotient_fits false true a b more fits not_least = omega (arith, no_greater a b more, fits)
  quotient_fits true false a b more fits not_least = omega (arith, no_greater a b more, fits)
  quotient_fits true true a b more fits not_least = by (cases_lt a (2 ^ (width - 1))) (cases_eq b 1)
    where
      by : (a < 2 ^ (width - 1)) ⊎ (2 ^ (width - 1) ≤ a) → (b ≡ 1) ⊎ (b ≡ 1 → ⊥) → a / b < 2 ^ (width - 1)
      by (inl less) one = omega (arith, no_greater a b more, less)
      by (inr above) (inl one) =
          let least : a ≡ 2 ^ (width - 1) = omega (arith, above, fits) in
          absurd (not_least refl refl least one)
      by (inr above) (inr other) =
          let two : 1 < b = grind arith in
          omega (arith, halved a b two, fits, pow_pos (width - 1))

  -- no least number is divided by -1
  not_least : (x y : Bits) → x < 2 ^ width → y < 2 ^ width → ((x ≡ 2 ^ (width - 1)) → (y ≡ 2 ^ width - 1) → ⊥)
      → is_negative width x ≡ true → is_negative width y ≡ true → magnitude width x ≡ 2 ^ (width - 1) → magnitude width y ≡ 1 → ⊥
  not_least x y x_is y_is never x_negative y_negative least one =
      let x_magnitude : 2 ^ width - x ≡ 2 ^ (width - 1) = ap (λ (b : Bool). if b then 2 ^ width - x else x) (sym x_negative) ∙ least in
      let y_magnitude : 2 ^ width - y ≡ 1 = ap (λ (b : Bool). if b then 2 ^ width - y else y) (sym y_negative) ∙ one in
      never (omega (arith, x_magnitude, whole, x_is)) (omega (arith, y_magnitude, y_is))

  faultless : (c z : Bool) → (if c then Some IntegerOverflow else (if z then Some DivisionByZero else None)) ≡ None → (c ≡ false) × (z ≡ false)
  faultless true z none = cc
  faultless false true none = cc
  faultless false false none = (refl, refl)

  same : (n d q r n' d' q' r' : ℤ) → n' ≡ n → d' ≡ d → q' ≡ q → r' ≡ r → IsDivided n d q r → IsDivided n' d' q' r'
  same n d q r n' d' q' r' n_is d_is q_is r_is divides = rw (n_is, d_is, q_is, r_is) divides

  pub signed_division : (x y : Bits) → HasWidth width x → HasWidth width y → binary_fault Sdiv width x y ≡ None
      → IsDivided (signed_number width x) (signed_number width y) (signed_result Sdiv width x y) (signed_result Srem width x y)
  signed_division x y x_is y_is none =
      let parts = faultless ((x == 2 ^ (width - 1)) && (y == 2 ^ width - 1)) (y == 0) none in
      let never : (x ≡ 2 ^ (width - 1)) → (y ≡ 2 ^ width - 1) → ⊥ = λ l m.
      apart (sym (and_from (x == 2 ^ (width - 1)) (y == 2 ^ width - 1) (eq-eqb x (2 ^ (width - 1)) l) (eq-eqb y (2 ^ width - 1) m)) ∙ parts.0) in
      let some_divisor : 0 < magnitude width y = magnitude_some y y_is (eqb-false y 0 parts.1) in
      let a : ℕ = magnitude width x in
      let b : ℕ = magnitude width y in
      let s : Bool = is_negative width x in
      let t : Bool = is_negative width y in
      let fits : Fits s a (2 ^ (width - 1)) = magnitude_fits x x_is in
      same (signed s a) (signed t b) (signed (differ s t) (a / b)) (signed s (a % b))
      (signed_number width x) (signed_number width y) (signed_result Sdiv width x y) (signed_result Srem width x y)
      (number_is x x_is) (number_is y y_is)
      (bits_are (differ s t) (a / b) (quotient_fits s t a b some_divisor fits (not_least x y x_is y_is never)))
      (bits_are s (a % b) (lesser_fits s (a % b) a (2 ^ (width - 1)) (mod-le a b) fits)) (divided s t a b some_divisor)
    where
      apart : true ≡ false → ⊥
      apart e = cc

pub unsigned_division : (width : ℕ) (x y : Bits) → binary_fault Udiv width x y ≡ None → (x / y * y + x % y ≡ x) × (x % y < y)
unsigned_division width x y none = (div-add-mod' x y, mod-lt x (by (y == 0) refl none))
  where
    by : (z : Bool) → (y == 0) ≡ z → (if z then Some DivisionByZero else None) ≡ None → 0 < y
    by true is none = cc
    by false is none =
        let other : y ≡ 0 → ⊥ = eqb-false y 0 is in grind arith
