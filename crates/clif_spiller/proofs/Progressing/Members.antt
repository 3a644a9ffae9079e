-- Members of lists that are made of parts, and the places of a block that is reached.
use Rattle.std.proofs.Common.{◌≡◌, ◌<◌, ◌≤◌, ◌+◌, ℕ, zero, suc, List, [], ◌∷◌, length, get_or, map, drop, flat_map, refl, sym, ap, subst, arith, inl, inr, ◌⊎◌}
use Rattle.std.specs.Prelude.{Contains}
use Rattle.std.proofs.lemmas.List.Elements.{Contains-append_cases, Contains-append_left, Contains-append_right}
use Rattle.clif_meaning.specs.FunctionView.{FunctionView}
use Rattle.clif_meaning.specs.Path.{IsReachable}
use Rattle.clif_meaning.specs.WellPlaced.{function_flow}
use Rattle.clif_safepoints.specs.Analysis.{IsReached}
use Rattle.clif_spilling_laws.specs.Live.{place_at}

pub first_of : {X : Type 0} (x : X) (xs : List X) → Contains (x ∷ xs) x
first_of x xs = (0, omega arith, refl)

pub later_of : {X : Type 0} (x y : X) (xs : List X) → Contains xs y → Contains (x ∷ xs) y
later_of x y xs (k, inside, is) = (suc k, omega (arith, inside), is)

pub first_or_later : {X : Type 0} (x y : X) (xs : List X) → Contains (x ∷ xs) y → (x ≡ y) ⊎ Contains xs y
first_or_later x y xs (zero, inside, is) = inl is
first_or_later x y xs (suc k, inside, is) = inr (k, omega (arith, inside), is)

-- FLAT MAPS -------------------------------------------------------------------------------------------------------------

pub into_flat : {X Y : Type 0} (p : X → List Y) (xs : List X) (x : X) (y : Y) → Contains xs x → Contains (p x) y → Contains (flat_map p xs) y
into_flat p [] x y (k, inside, is) there = absurd (omega (arith, inside))
into_flat p (z ∷ xs) x y (zero, inside, is) there = Contains-append_left (p z) (flat_map p xs) y (subst (λ w. Contains (p w) y) (sym is) there)
into_flat p (z ∷ xs) x y (suc k, inside, is) there = Contains-append_right (p z) (flat_map p xs) y (into_flat p xs x y (k, omega (arith, inside), is) there)

pub from_flat : {X Y : Type 0} (p : X → List Y) (xs : List X) (y : Y) → Contains (flat_map p xs) y → (x : X) × Contains xs x × Contains (p x) y
from_flat p [] y (k, inside, is) = absurd (omega (arith, inside))
from_flat {X} p (z ∷ xs) y here = by (from_flat p xs y) (Contains-append_cases (p z) (flat_map p xs) y here)
  where
    by : (Contains (flat_map p xs) y → (x : X) × Contains xs x × Contains (p x) y) → Contains (p z) y ⊎ Contains (flat_map p xs) y
        → (x : X) × Contains (z ∷ xs) x × Contains (p x) y
    by rest (inl front) = (z, first_of z xs, front)
    by rest (inr back) = let found = rest back in (found.0, later_of z found.0 xs found.1, found.2)

pub into_map : {X Y : Type 0} (p : X → Y) (xs : List X) (x : X) → Contains xs x → Contains (map p xs) (p x)
into_map p [] x (k, inside, is) = absurd (omega (arith, inside))
into_map p (z ∷ xs) x (zero, inside, is) = (0, omega arith, ap p is)
into_map p (z ∷ xs) x (suc k, inside, is) = later_of (p z) (p x) (map p xs) (into_map p xs x (k, omega (arith, inside), is))

pub from_map : {X Y : Type 0} (p : X → Y) (xs : List X) (y : Y) → Contains (map p xs) y → (x : X) × Contains xs x × (p x ≡ y)
from_map p [] y (k, inside, is) = absurd (omega (arith, inside))
from_map p (z ∷ xs) y (zero, inside, is) = (z, first_of z xs, is)
from_map p (z ∷ xs) y (suc k, inside, is) = let found = from_map p xs y (k, omega (arith, inside), is) in (found.0, later_of z found.0 xs found.1, found.2)

-- PARTS OF A LIST -------------------------------------------------------------------------------------------------------

-- the last of what isn't dropped
pub drop_one_less : (xs : List ℕ) (k d : ℕ) → k < length xs → drop k xs ≡ get_or xs k d ∷ drop (suc k) xs
drop_one_less [] k d inside = absurd (omega (arith, inside))
drop_one_less (x ∷ xs) zero d inside = refl
drop_one_less (x ∷ xs) (suc k) d inside = drop_one_less xs k d (omega (arith, inside))

pub drop_all : (xs : List ℕ) (k : ℕ) → length xs ≤ k → drop k xs ≡ []
drop_all [] zero past = refl
drop_all [] (suc k) past = refl
drop_all (x ∷ xs) zero past = absurd (omega (arith, past))
drop_all (x ∷ xs) (suc k) past = drop_all xs k (omega (arith, past))

pub within_dropped : (xs : List ℕ) (k y : ℕ) → Contains (drop k xs) y → (j : ℕ) × (k ≤ j) × (j < length xs) × (get_or xs j y ≡ y)
within_dropped [] zero y (j, inside, is) = absurd (omega (arith, inside))
within_dropped [] (suc k) y (j, inside, is) = absurd (omega (arith, inside))
within_dropped (x ∷ xs) zero y (j, inside, is) = (j, omega arith, inside, is)
within_dropped (x ∷ xs) (suc k) y here = let found = within_dropped xs k y here in (suc found.0, omega (arith, found.1), omega (arith, found.2), found.3)

-- PLACES ----------------------------------------------------------------------------------------------------------------

-- each place of a block that is reached is reachable
pub reachable_in : (function : FunctionView) (b : ℕ) → IsReached function b → (k : ℕ) → k < length (function.blocks b).items → IsReachable (function_flow function) (place_at b k)
reachable_in function b (inl entry) zero inside = ([], (entry, (refl, inside)))
reachable_in function b (inr edge) zero inside = (edge.0 ∷ edge.1.0, (inr (edge.2, (refl, inside)), edge.1.1))
reachable_in function b reached (suc k) inside =
    let before = reachable_in function b reached k (omega (arith, inside)) in
    (place_at b k ∷ before.0, (inl (refl, (let next : suc k ≡ k + 1 = omega arith in next), inside), before.1))
