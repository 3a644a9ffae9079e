-- Elements of lists in two parts, and of lists that stand for elements.
use Rattle.std.proofs.Common.{◌≡◌, ℕ, zero, suc, List, [], ◌∷◌, ◌++◌, flat_map, slice_get, Some, ◌⊎◌, inl, inr, subst}
use Rattle.clif_simulation.proofs.Finished.Giving.{In}

pub in_either : {X : Type 0} (xs ys : List X) (y : X) → In y (xs ++ ys) → In y xs ⊎ In y ys
in_either [] ys y there = inr there
in_either (x ∷ xs) ys y (inl here) = inl (inl here)
in_either {X} (x ∷ xs) ys y (inr there) = by (in_either xs ys y there)
  where
    by : In y xs ⊎ In y ys → In y (x ∷ xs) ⊎ In y ys
    by (inl first) = inl (inr first)
    by (inr second) = inr second

pub in_first : {X : Type 0} (xs ys : List X) (y : X) → In y xs → In y (xs ++ ys)
in_first [] ys y there = absurd there
in_first (x ∷ xs) ys y (inl here) = inl here
in_first (x ∷ xs) ys y (inr there) = inr (in_first xs ys y there)

pub in_second : {X : Type 0} (xs ys : List X) (y : X) → In y ys → In y (xs ++ ys)
in_second [] ys y there = there
in_second (x ∷ xs) ys y there = inr (in_second xs ys y there)

pub among_all : {X Y : Type 0} (g : X → List Y) (xs : List X) (k : ℕ) (x : X) (y : Y) → slice_get xs k ≡ Some x → In y (g x) → In y (flat_map g xs)
among_all g [] zero x y stands has = cc
among_all g [] (suc k) x y stands has = cc
among_all {X} {Y} g (z ∷ xs) zero x y stands has = let same : x ≡ z = some_is z x stands in in_first (g z) (flat_map g xs) y (subst (λ (w : X). In y (g w)) same has)
  where
    some_is : (z x : X) → Some z ≡ Some x → x ≡ z
    some_is z x e = cc
among_all g (z ∷ xs) (suc k) x y stands has = in_second (g z) (flat_map g xs) y (among_all g xs k x y stands has)
