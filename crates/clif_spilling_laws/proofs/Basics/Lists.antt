-- Members of lists, lists side by side, and assignments.
use Rattle.std.proofs.Common.{◌≡◌, ◌⊎◌, ◌<◌, ◌≤◌, ◌+◌, inl, inr, ℕ, zero, suc, Bool, true, false, List, [], ◌∷◌, length, map, drop, refl, sym, ap, subst, arith, Option, Some, None, add-one, eqb}
use Rattle.std.specs.Prelude.{Contains, slice_get, slice_index, if◌then◌else◌}
use Rattle.std.specs.List.{AllZip}
use Rattle.std.specs.List.Sorted.{IsStrictlyIncreasing}
use Rattle.std.proofs.lemmas.Bool.{eqb-true, eqb-false, eq-eqb}
use Rattle.std.proofs.lemmas.Option.{get_or_from_slice_get, slice_get_within}
use Rattle.clif_meaning.specs.Bits.{Bits}
use Rattle.clif_meaning.specs.FunctionMachine.{same_value}
use Rattle.clif_meaning.specs.Store.{assigned}
use Rattle.clif_safepoints.proofs.Paths.{contains_at, place_of_member, stands_from, stands_to}
use Rattle.clif_instructions.specs.Members.{stands_in}

-- MEMBERS ---------------------------------------------------------------------------------------------------------------

pub none_some : {X : Type 0} (x : X) → ◌≡◌ {A = Option X} None (Some x) → ⊥
none_some x e = cc

pub some_same : {X : Type 0} (x y : X) → ◌≡◌ {A = Option X} (Some x) (Some y) → x ≡ y
some_same x y e = cc

pub first_is : {X : Type 0} (x y : X) (xs ys : List X) → (x ∷ xs) ≡ (y ∷ ys) → x ≡ y
first_is x y xs ys e = cc

pub rest_is : {X : Type 0} (x y : X) (xs ys : List X) → (x ∷ xs) ≡ (y ∷ ys) → xs ≡ ys
rest_is x y xs ys e = cc

pub not_empty : {X : Type 0} (x : X) (xs : List X) → (x ∷ xs) ≡ [] → ⊥
not_empty x xs e = cc

pub drop_none : {X : Type 0} (xs : List X) → drop 0 xs ≡ xs
drop_none [] = refl
drop_none (x ∷ xs) = refl

pub contains_none : {X : Type 0} (x : X) → Contains [] x → ⊥
contains_none x h = let at = place_of_member [] x h in none_some x at.1

pub contains_first : {X : Type 0} (x : X) (xs : List X) → Contains (x ∷ xs) x
contains_first x xs = contains_at (x ∷ xs) 0 x refl

pub contains_more : {X : Type 0} (x y : X) (xs : List X) → Contains xs y → Contains (x ∷ xs) y
contains_more x y xs h = let at = place_of_member xs y h in contains_at (x ∷ xs) (suc at.0) y at.1

pub contains_cases : {X : Type 0} (x y : X) (xs : List X) → Contains (x ∷ xs) y → (x ≡ y) ⊎ Contains xs y
contains_cases x y xs h = let at = place_of_member (x ∷ xs) y h in by at.0 at.1
  where
    by : (k : ℕ) → slice_get (x ∷ xs) k ≡ Some y → (x ≡ y) ⊎ Contains xs y
    by zero e = inl (some_same x y e)
    by (suc k) e = inr (contains_at xs k y e)

pub true_false : {P : Type 0} (b : Bool) → b ≡ true → b ≡ false → P
true_false b is not = cc

pub member_or_not : (v : ℕ) (xs : List ℕ) → Contains xs v ⊎ (Contains xs v → ⊥)
member_or_not v xs = by (stands_in v xs) refl
  where
    by : (c : Bool) → stands_in v xs ≡ c → Contains xs v ⊎ (Contains xs v → ⊥)
    by true e = inl (stands_to v xs e)
    by false e = inr (λ h. true_false (stands_in v xs) (stands_from v xs h) e)

pub same_or_not : (a b : ℕ) → (a ≡ b) ⊎ (a ≡ b → ⊥)
same_or_not a b = by (eqb a b) refl
  where
    by : (c : Bool) → eqb a b ≡ c → (a ≡ b) ⊎ (a ≡ b → ⊥)
    by true e = inl (eqb-true a b e)
    by false e = inr (eqb-false a b e)

pub true_or_false : (b : Bool) → (b ≡ true) ⊎ (b ≡ false)
true_or_false true = inl refl
true_or_false false = inr refl

-- what begins the rest of a list
pub dropped : {X : Type 0} (xs : List X) (k : ℕ) (x : X) (rest : List X) → drop k xs ≡ x ∷ rest
    → (k < length xs) × (slice_get xs k ≡ Some x) × (drop (suc k) xs ≡ rest)
dropped [] zero x rest e = cc
dropped [] (suc k) x rest e = cc
dropped (y ∷ xs) zero x rest e = (omega arith, (let h : y ≡ x = cc in ap (λ z. Some z) h), (let h : xs ≡ rest = cc in h))
dropped (y ∷ xs) (suc k) x rest e = let more = dropped xs k x rest e in (let h = more.0 in omega (arith, h), more.1, more.2)

-- RISING NUMBERS --------------------------------------------------------------------------------------------------------

-- the rest of a rising list rises
pub rises_on : (v : ℕ) (vs : List ℕ) → IsStrictlyIncreasing (v ∷ vs) → IsStrictlyIncreasing vs
rises_on v vs rising k inside =
    subst (λ (n : ℕ). slice_index vs k < slice_index (v ∷ vs) n) (next k) (rising (suc k) (omega arith))
  where
    next : (k : ℕ) → suc k + 1 ≡ suc (k + 1)
    next k = omega arith

-- its first number is below each of the others
first_below : (v : ℕ) (vs : List ℕ) → IsStrictlyIncreasing (v ∷ vs) → (k : ℕ) → k < length vs → v < slice_index vs k
first_below v vs rising zero inside = rising 0 (omega arith)
first_below v vs rising (suc k) inside =
    let before = first_below v vs rising k (omega arith) in
    let step : slice_index vs k < slice_index vs (suc k) =
    subst (λ (n : ℕ). slice_index vs k < slice_index (v ∷ vs) n) (add-one (suc k)) (rising (suc k) (omega arith)) in
    omega (arith, before, step)

pub first_is_below : (v w : ℕ) (vs : List ℕ) → IsStrictlyIncreasing (v ∷ vs) → Contains vs w → v < w
first_is_below v w vs rising h =
    let at = place_of_member vs w h in
    subst (λ (n : ℕ). v < n) (get_or_from_slice_get vs at.0 w 0 at.1) (first_below v vs rising at.0 (inside at.0 at.1))
  where
    inside : (k : ℕ) → slice_get vs k ≡ Some w → k < length vs
    inside k e = slice_get_within vs k w e

-- LISTS SIDE BY SIDE ----------------------------------------------------------------------------------------------------

-- what is the same of the members of two lists is the same of the lists
pub zip_map : {X Y Z : Type 0} (R : X → Y → Type 0) (f : X → Z) (g : Y → Z) (xs : List X) (ys : List Y) → AllZip R xs ys
    → ((x : X) (y : Y) → Contains xs x → R x y → g y ≡ f x) → map g ys ≡ map f xs
zip_map R f g [] [] zipped each = refl
zip_map R f g [] (y ∷ ys) zipped each = absurd zipped
zip_map R f g (x ∷ xs) [] zipped each = absurd zipped
zip_map R f g (x ∷ xs) (y ∷ ys) zipped each =
    λ i. each x y (contains_first x xs) zipped.0 i ∷ zip_map R f g xs ys zipped.1 (λ x' y' h. each x' y' (contains_more x x' xs h)) i

-- ASSIGNMENTS -----------------------------------------------------------------------------------------------------------

-- a place that isn't among those that are assigned keeps its bits
pub assigned_other : (places : List ℕ) (bits : List Bits) (old : ℕ → Bits) (v : ℕ) → (Contains places v → ⊥)
    → assigned same_value places bits old v ≡ old v
assigned_other [] bits old v none = refl
assigned_other (p ∷ places) [] old v none = refl
assigned_other (p ∷ places) (x ∷ bits) old v none = by (same_value v p) refl (assigned_other places bits old v (λ h. none (contains_more p v places h)))
  where
    by : (c : Bool) → same_value v p ≡ c → assigned same_value places bits old v ≡ old v
        → (if c then x else assigned same_value places bits old v) ≡ old v
    by true e later = absurd (none (subst (λ (q : ℕ). Contains (p ∷ places) q) (sym (eqb-true v p e)) (contains_first p places)))
    by false e later = later

-- a single place gets its bits
pub assigned_one : (p : ℕ) (x : Bits) (old : ℕ → Bits) → assigned same_value (p ∷ []) (x ∷ []) old p ≡ x
assigned_one p x old = let e : same_value p p ≡ true = eq-eqb p p refl in rw e refl

-- A place that is assigned holds the same after two assignments that give it the same, where there are bits for each place.
pub assigned_alike : (places : List ℕ) (left right : List Bits) (old_left old_right : ℕ → Bits) (v : ℕ)
    → length places ≤ length left → length places ≤ length right
    → ((k : ℕ) → slice_get places k ≡ Some v → slice_get left k ≡ slice_get right k) → Contains places v
    → assigned same_value places left old_left v ≡ assigned same_value places right old_right v
assigned_alike [] left right old_left old_right v long_left long_right alike h = absurd (contains_none v h)
assigned_alike (p ∷ places) [] right old_left old_right v long_left long_right alike h = absurd (omega (arith, long_left))
assigned_alike (p ∷ places) (x ∷ left) [] old_left old_right v long_left long_right alike h = absurd (omega (arith, long_right))
assigned_alike (p ∷ places) (x ∷ left) (y ∷ right) old_left old_right v long_left long_right alike h =
    by (same_value v p) refl
    (assigned_alike places left right old_left old_right v (omega (arith, long_left)) (omega (arith, long_right)) (λ k. alike (suc k)))
  where
    by : (c : Bool) → same_value v p ≡ c
        → (Contains places v → assigned same_value places left old_left v ≡ assigned same_value places right old_right v)
        → (if c then x else assigned same_value places left old_left v) ≡ (if c then y else assigned same_value places right old_right v)
    by true e later = some_same x y (alike 0 (ap (λ (q : ℕ). Some q) (sym (eqb-true v p e))))
    by false e later = later (among (contains_cases p v places h))
      where
        among : (p ≡ v) ⊎ Contains places v → Contains places v
        among (inl same) = absurd (eqb-false v p e (sym same))
        among (inr more) = more
