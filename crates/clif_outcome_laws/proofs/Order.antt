-- The places of signed numbers among all of them, and the conditions on integers.
use Rattle.std.proofs.Common.{◌≡◌, ◌+◌, ◌-◌, ◌*◌, ◌%◌, ◌^◌, ◌<◌, ◌≤◌, ℕ, Bool, true, false, refl, sym, ◌∙◌, ap, arith, ◌↔◌, ◌⊎◌, inl, inr}
use Rattle.std.specs.Prelude.{◌≢◌, ◌<ℤ◌, ◌≤ℤ◌, ℤ, pos, ◌+ℤ◌, not, ◌==◌, nat_lt, nat_le}
use Rattle.std.proofs.Math.Nat.{mod-eq_of_lt, add-mod_right}
use Rattle.std.proofs.lemmas.Bool.{ltb-true, leb-true, lt-ltb, le-leb, eqb-true, eq-eqb, cases_lt}
use Rattle.std.proofs.lemmas.Int.{ints}
use Rattle.clif_types.specs.declared.condcodes.IntCC.{IntCC}
use Rattle.clif_types.specs.declared.condcodes.IntCC.TheVariants as cc
use Rattle.clif_meaning.specs.Bits.{Bits, HasWidth, wrapped}
use Rattle.clif_meaning.specs.Outcome.{compares, signed_place}
use Rattle.clif_outcome_laws.specs.Integers.{signed_number}
use Rattle.clif_outcome_laws.specs.Orders.{Compares}
use Rattle.clif_outcome_laws.proofs.Widths.{half, below_half, from_half, bits_mean}

-- the place is the number and half of all: the place of the least number is 0
place_is : (width x : ℕ) → 1 ≤ width → x < 2 ^ width → pos (signed_place width x) ≡ signed_number width x +ℤ pos (2 ^ (width - 1))
place_is width x some is = by (cases_lt x (2 ^ (width - 1)))
  where
    whole : 2 ^ width ≡ 2 * 2 ^ (width - 1)
    whole = half width some

    by : (x < 2 ^ (width - 1)) ⊎ (2 ^ (width - 1) ≤ x) → pos (signed_place width x) ≡ signed_number width x +ℤ pos (2 ^ (width - 1))
    by (inl below) =
        let inside : x + 2 ^ (width - 1) < 2 ^ width = omega (arith, whole, below) in
        rw (below_half width x below) (ap pos (mod-eq_of_lt inside))
    by (inr above) =
        let round : x + 2 ^ (width - 1) ≡ x - 2 ^ (width - 1) + 2 ^ width = omega (arith, whole, above) in
        let inside : x - 2 ^ (width - 1) < 2 ^ width = omega (arith, is) in
        let place : signed_place width x ≡ x - 2 ^ (width - 1) =
        ap (λ (n : ℕ). n % 2 ^ width) round ∙ add-mod_right (x - 2 ^ (width - 1)) (2 ^ width) ∙ mod-eq_of_lt inside in
        rw (from_half width x above, place) (omega (arith, ints, whole, above, is))

-- two places are in the order of their numbers
less : (width x y : ℕ) → 1 ≤ width → x < 2 ^ width → y < 2 ^ width → (nat_lt (signed_place width x) (signed_place width y) ≡ true) ↔ (signed_number width x <ℤ signed_number width y)
less width x y some x_is y_is = by (signed_place width x) (signed_place width y) (signed_number width x) (signed_number width y) (2 ^ (width - 1))
    (place_is width x some x_is) (place_is width y some y_is)
  where
    by : (p q : ℕ) (a b : ℤ) (h : ℕ) → pos p ≡ a +ℤ pos h → pos q ≡ b +ℤ pos h → (nat_lt p q ≡ true) ↔ (a <ℤ b)
    by p q a b h first second = (λ e. onward (ltb-true p q e), λ l. lt-ltb p q (back l))
      where
        onward : p < q → a <ℤ b
        onward l = omega (arith, ints, first, second, l)

        back : a <ℤ b → p < q
        back l = omega (arith, ints, first, second, l)

no_more : (width x y : ℕ) → 1 ≤ width → x < 2 ^ width → y < 2 ^ width → (nat_le (signed_place width x) (signed_place width y) ≡ true) ↔ (signed_number width x ≤ℤ signed_number width y)
no_more width x y some x_is y_is = by (signed_place width x) (signed_place width y) (signed_number width x) (signed_number width y) (2 ^ (width - 1))
    (place_is width x some x_is) (place_is width y some y_is)
  where
    by : (p q : ℕ) (a b : ℤ) (h : ℕ) → pos p ≡ a +ℤ pos h → pos q ≡ b +ℤ pos h → (nat_le p q ≡ true) ↔ (a ≤ℤ b)
    by p q a b h first second = (λ e. onward (leb-true p q e), λ l. le-leb p q (back l))
      where
        onward : p ≤ q → a ≤ℤ b
        onward l = omega (arith, ints, first, second, l)

        back : a ≤ℤ b → p ≤ q
        back l = omega (arith, ints, first, second, l)

unequal : (x y : ℕ) → (not (x == y) ≡ true) ↔ (x ≢ y)
unequal x y = by (x == y) refl
  where
    by : (b : Bool) → (x == y) ≡ b → (not b ≡ true) ↔ (x ≢ y)
    by true same = (λ e. cc, λ other. absurd (other (eqb-true x y same)))
    by false other = (λ e same. apart (sym other ∙ eq-eqb x y same), λ e. refl)
      where
        apart : false ≡ true → ⊥
        apart e = cc

pub conditions : (condition : IntCC) (width : ℕ) (x y : Bits) → 1 ≤ width → HasWidth width x → HasWidth width y → (compares condition width x y ≡ true) ↔ Compares condition width x y
conditions cc.Equal width x y some x_is y_is = (eqb-true x y, eq-eqb x y)
conditions cc.NotEqual width x y some x_is y_is = unequal x y
conditions cc.SignedLessThan width x y some x_is y_is = less width x y some x_is y_is
conditions cc.SignedGreaterThanOrEqual width x y some x_is y_is = no_more width y x some y_is x_is
conditions cc.SignedGreaterThan width x y some x_is y_is = less width y x some y_is x_is
conditions cc.SignedLessThanOrEqual width x y some x_is y_is = no_more width x y some x_is y_is
conditions cc.UnsignedLessThan width x y some x_is y_is = (ltb-true x y, lt-ltb x y)
conditions cc.UnsignedGreaterThanOrEqual width x y some x_is y_is = (leb-true y x, le-leb y x)
conditions cc.UnsignedGreaterThan width x y some x_is y_is = (ltb-true y x, lt-ltb y x)
conditions cc.UnsignedLessThanOrEqual width x y some x_is y_is = (leb-true x y, le-leb x y)

pub one_number : (width : ℕ) (x y : Bits) → 1 ≤ width → HasWidth width x → HasWidth width y → signed_number width x ≡ signed_number width y → x ≡ y
one_number width x y some x_is y_is same = sym (bits_mean width x some x_is) ∙ ap (wrapped width) same ∙ bits_mean width y some y_is
