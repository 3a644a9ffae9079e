-- Runs that end alike, and show nothing before that which the other doesn't show, have the same meaning.
use Rattle.std.proofs.Common.{◌≡◌, ◌⊎◌, inl, inr, ◌<◌, ◌≤◌, ◌+◌, ℕ, zero, suc, sym, ◌∙◌, arith, subst}
use Rattle.clif_meaning.specs.Machine.{EndStays, IsEnd}
use Rattle.clif_meaning.specs.SameMeaning.{Behaviour, SameMeaning, ShowsAllOf}

-- each of so many observations of the one run from this one on is one of the other
abbrev pub Early : Behaviour → Behaviour → (from count : ℕ) → Type 0
Early left right from zero = Unit {0}
Early left right from (suc count) = ((m : ℕ) × (left from ≡ right m)) × Early left right (suc from) count

module _ (left right : Behaviour) where
  found : (from count k : ℕ) → k < count → Early left right from count → (m : ℕ) × (left (from + k) ≡ right m)
  found from zero k below early = absurd (omega (arith, below))
  found from (suc count) zero below early =
      (early.0.0, subst (λ (n : ℕ). left n ≡ right early.0.0) (let e : from ≡ from + 0 = omega arith in e) early.0.1)
  found from (suc count) (suc k) below early =
      let later = found (suc from) count k (omega (arith, below)) early.1 in
      (later.0, subst (λ (n : ℕ). left n ≡ right later.0) (let e : suc from + k ≡ from + suc k = omega arith in e) later.1)

  shows_all : (a b : ℕ) → EndStays left → IsEnd (left a).ending → Early left right 0 a → left a ≡ right b → ShowsAllOf left right
  shows_all a b stays end early same n = by (order n a)
    where
      order : (n a : ℕ) → (n < a) ⊎ (a ≤ n)
      order n a = grind arith

      by : (n < a) ⊎ (a ≤ n) → (m : ℕ) × (left n ≡ right m)
      by (inl before) =
          let here = found 0 a n before early in
          (here.0, subst (λ (k : ℕ). left k ≡ right here.0) (let e : 0 + n ≡ n = omega arith in e) here.1)
      by (inr behind) = (b, stays a n behind end ∙ same)

pub means_the_same : (left right : Behaviour) (a b : ℕ) → EndStays left → EndStays right → IsEnd (left a).ending → IsEnd (right b).ending
    → Early left right 0 a → Early right left 0 b → left a ≡ right b → SameMeaning left right
means_the_same left right a b left_stays right_stays left_ends right_ends there back same = record {
  there = shows_all left right a b left_stays left_ends there same;
  back = shows_all right left b a right_stays right_ends back (sym same);
}
