-- What stands at a place of a list.
use Rattle.std.proofs.Common.{◌≡◌, ◌+◌, ◌<◌, ℕ, zero, suc, List, [], ◌∷◌, length, map, refl, ◌∙◌, ap, arith, Some}
use Rattle.std.specs.Prelude.{slice_get, slice_index_or, Contains}
use Rattle.std.specs.List.{range_with_len}
use Rattle.std.proofs.lemmas.Option.{slice_get_within}

-- what stands at a place of a list is in it
pub contained_at : {X : Type 0} (xs : List X) (k : ℕ) (x : X) → slice_get xs k ≡ Some x → Contains xs x
contained_at {X} xs k x at = (k, slice_get_within xs k x at, got xs k at)
  where
    got : (ys : List X) (j : ℕ) → slice_get ys j ≡ Some x → slice_index_or ys j x ≡ x
    got [] j at = refl
    got (y ∷ ys) zero at = cc
    got (y ∷ ys) (suc j) at = got ys j at

-- what is in a list stands at a place of it
pub place_of_one : {X : Type 0} (xs : List X) (x : X) → Contains xs x → (k : ℕ) × (slice_get xs k ≡ Some x)
place_of_one {X} xs x here = (here.0, got xs here.0 here.1 here.2)
  where
    got : (ys : List X) (j : ℕ) → j < length ys → slice_index_or ys j x ≡ x → slice_get ys j ≡ Some x
    got [] j below is = absurd (omega (arith, below))
    got (y ∷ ys) zero below is = ap (λ (z : X). Some z) is
    got (y ∷ ys) (suc j) below is = got ys j (omega (arith, below)) is

pub mapped_at : {X Y : Type 0} (h : X → Y) (xs : List X) (k : ℕ) (x : X) → slice_get xs k ≡ Some x → slice_get (map h xs) k ≡ Some (h x)
mapped_at h [] k x at = let none : ⊥ = cc in absurd none
mapped_at {X} {Y} h (y ∷ xs) zero x at = ap (λ (z : Y). Some z) (ap h (same y x at))
  where
    same : (a b : X) → Some a ≡ Some b → a ≡ b
    same a b is = cc
mapped_at h (y ∷ xs) (suc k) x at = mapped_at h xs k x at

pub mapped_from : {X Y : Type 0} (h : X → Y) (xs : List X) (k : ℕ) (y : Y) → slice_get (map h xs) k ≡ Some y → (x : X) × (slice_get xs k ≡ Some x) × (h x ≡ y)
mapped_from h [] k y at = let none : ⊥ = cc in absurd none
mapped_from {X} {Y} h (x ∷ xs) zero y at = (x, refl, same (h x) y at)
  where
    same : (a b : Y) → Some a ≡ Some b → a ≡ b
    same a b is = cc
mapped_from h (x ∷ xs) (suc k) y at = mapped_from h xs k y at

-- what stands at a place of the numbers that follow one another
pub range_at : (first count k : ℕ) → k < count → slice_get (range_with_len first count) k ≡ Some (first + k)
range_at first zero k below = absurd (omega (arith, below))
range_at first (suc count) zero below = let back : first ≡ first + 0 = omega arith in ap (λ (v : ℕ). Some v) back
range_at first (suc count) (suc k) below =
    let back : (first + 1) + k ≡ first + suc k = omega arith in
    range_at (first + 1) count k (omega (arith, below)) ∙ ap (λ (v : ℕ). Some v) back

pub range_count : (first count : ℕ) → length (range_with_len first count) ≡ count
range_count first zero = refl
range_count first (suc count) = ap suc (range_count (first + 1) count)

pub mapped_count : {X Y : Type 0} (h : X → Y) (xs : List X) → length (map h xs) ≡ length xs
mapped_count h [] = refl
mapped_count h (x ∷ xs) = ap suc (mapped_count h xs)
