-- Lists of what is given, and paths beside what is given along them.
use Rattle.std.proofs.Common.{◌≡◌, ◌<◌, ℕ, zero, suc, Bool, true, false, List, [], ◌∷◌, ◌++◌, drop, length, refl, sym, ◌∙◌, ap, subst, arith, ◌⊎◌, inl, inr, Some}
use Rattle.std.specs.Prelude.{◌≢◌, Contains, slice_get}
use Rattle.std.specs.List.{AllByRecursion, AllZip}
use Rattle.clif_meaning.specs.Name.{Name, same_name}
use Rattle.clif_meaning.specs.Path.{Place}
use Rattle.clif_meaning.specs.WellPlaced.{Code, IsGivenAlong, given_on_entry}
use Rattle.clif_expansion.specs.Reading.{IsReadAs, Reading}
use Rattle.clif_expansion.proofs.Names.{equal_names, names_equal}

-- LISTS -----------------------------------------------------------------------------------------------------------------

pub none_contained : {X : Type 0} (x : X) → Contains [] x → ⊥
none_contained x here = absurd (omega (arith, here.1))

pub contained_later : {X : Type 0} (x : X) (xs : List X) (y : X) → Contains xs y → Contains (x ∷ xs) y
contained_later x xs y here = (suc here.0, omega (arith, here.1), here.2)

pub contained_first : {X : Type 0} (x : X) (xs : List X) → Contains (x ∷ xs) x
contained_first x xs = (0, omega arith, refl)

pub contained_in : {X : Type 0} (x : X) (xs : List X) (y : X) → Contains (x ∷ xs) y → (x ≡ y) ⊎ Contains xs y
contained_in x xs y (zero, below, at) = inl at
contained_in x xs y (suc k, below, at) = inr (k, omega (arith, below), at)

pub contained_either : {X : Type 0} (xs ys : List X) (y : X) → Contains (xs ++ ys) y → Contains xs y ⊎ Contains ys y
contained_either [] ys y here = inr here
contained_either (x ∷ xs) ys y here =
    let later : Contains (xs ++ ys) y → Contains xs y ⊎ Contains ys y = contained_either xs ys y in
    elim (contained_in x (xs ++ ys) y here) [
      | inl same ↦ inl (subst (λ z. Contains (x ∷ xs) z) same (contained_first x xs))
      | inr further ↦ elim (later further) [
        | inl left ↦ inl (contained_later x xs y left)
        | inr right ↦ inr right
      ]
    ]

pub contained_left : {X : Type 0} (xs ys : List X) (y : X) → Contains xs y → Contains (xs ++ ys) y
contained_left [] ys y here = absurd (none_contained y here)
contained_left (x ∷ xs) ys y here =
    let later : Contains xs y → Contains (xs ++ ys) y = contained_left xs ys y in
    elim (contained_in x xs y here) [
      | inl same ↦ subst (λ z. Contains (x ∷ xs ++ ys) z) same (contained_first x (xs ++ ys))
      | inr further ↦ contained_later x (xs ++ ys) y (later further)
    ]

-- it holds of what a list contains of whose elements it holds
pub of_contained : {X : Type 0} (P : X → Type 0) (xs : List X) (y : X) → AllByRecursion P xs → Contains xs y → P y
of_contained P [] y all here = absurd (none_contained y here)
of_contained P (x ∷ xs) y all here =
    let later : Contains xs y → P y = of_contained P xs y all.1 in
    elim (contained_in x xs y here) [
      | inl same ↦ subst (λ z. P z) same all.0
      | inr further ↦ later further
    ]

-- a name is in a list, or it isn't
pub is_contained : (xs : List Name) (y : Name) → Contains xs y ⊎ (Contains xs y → ⊥)
is_contained [] y = inr (none_contained y)
is_contained (x ∷ xs) y = by (same_name x y) refl (is_contained xs y)
  where
    apart : true ≡ false → ⊥
    apart same = cc

    neither : (same_name x y ≡ false) → (Contains xs y → ⊥) → Contains (x ∷ xs) y → ⊥
    neither is not here =
        elim (contained_in x xs y here) [
          | inl same ↦ apart (sym (equal_names x y same) ∙ is)
          | inr further ↦ not further
        ]

    by : (c : Bool) → same_name x y ≡ c → Contains xs y ⊎ (Contains xs y → ⊥) → Contains (x ∷ xs) y ⊎ (Contains (x ∷ xs) y → ⊥)
    by true is rest = inl (subst (λ z. Contains (x ∷ xs) z) (names_equal x y is) (contained_first x xs))
    by false is (inl later) = inl (contained_later x xs y later)
    by false is (inr not) = inr (neither is not)

-- what stands for a name of a list is in the list that is read as it
pub contained_read : (reading : Reading) (names read : List Name) (name : Name) → AllZip (IsReadAs reading) names read → Contains read name
    → (x : Name) × IsReadAs reading x name × Contains names x
contained_read reading [] [] name is here = absurd (none_contained name here)
contained_read reading [] (other ∷ read) name is here = absurd is
contained_read reading (x ∷ names) [] name is here = absurd is
contained_read reading (x ∷ names) (other ∷ read) name is here =
    let later : Contains read name → (y : Name) × IsReadAs reading y name × Contains names y = contained_read reading names read name is.1 in
    elim (contained_in other read name here) [
      | inl same ↦ (x, subst (λ z. IsReadAs reading x z) same is.0, contained_first x names)
      | inr further ↦ let found : (y : Name) × IsReadAs reading y name × Contains names y = later further in (found.0, found.1, contained_later x names found.0 found.2)
    ]

-- the element at which a list goes on, and what is behind it
pub at_drop : {X : Type 0} (xs : List X) (k : ℕ) (y : X) (ys : List X) → drop k xs ≡ y ∷ ys → slice_get xs k ≡ Some y
at_drop [] zero y ys is = let none : ⊥ = cc in absurd none
at_drop [] (suc k) y ys is = let none : ⊥ = cc in absurd none
at_drop {X} (x ∷ xs) zero y ys is = ap (λ (zs : List X). slice_get zs 0) is
at_drop (x ∷ xs) (suc k) y ys is = at_drop xs k y ys is

pub behind_drop : {X : Type 0} (xs : List X) (k : ℕ) (y : X) (ys : List X) → drop k xs ≡ y ∷ ys → drop (suc k) xs ≡ ys
behind_drop [] zero y ys is = let none : ⊥ = cc in absurd none
behind_drop [] (suc k) y ys is = let none : ⊥ = cc in absurd none
behind_drop {X} (x ∷ xs) zero y ys is = ap (λ (zs : List X). drop 1 zs) is
behind_drop (x ∷ xs) (suc k) y ys is = behind_drop xs k y ys is

pub inside_drop : {X : Type 0} (xs : List X) (k : ℕ) → k < length xs → drop k xs ≢ []
inside_drop [] k below is = absurd (omega (arith, below))
inside_drop (x ∷ xs) zero below is = cc
inside_drop (x ∷ xs) (suc k) below is = inside_drop xs k (omega (arith, below)) is

pub below_drop : {X : Type 0} (xs : List X) (k : ℕ) (y : X) (ys : List X) → drop k xs ≡ y ∷ ys → k < length xs
below_drop [] zero y ys is = let none : ⊥ = cc in absurd none
below_drop [] (suc k) y ys is = let none : ⊥ = cc in absurd none
below_drop (x ∷ xs) zero y ys is = omega arith
below_drop (x ∷ xs) (suc k) y ys is = let below = below_drop xs k y ys is in omega (arith, below)

-- PATHS -----------------------------------------------------------------------------------------------------------------

-- given along a path, or as the place behind it is come to
abbrev pub IsGivenAt : Code Name Name → Place Name → List (Place Name) → Name → Type 0
IsGivenAt code q path x = Contains (given_on_entry code q.block q.index) x ⊎ IsGivenAlong code x path

-- behind a place nothing is given on entry
pub given_further : (code : Code Name Name) (block : Name) (index : ℕ) (path : List (Place Name)) (x : Name)
    → IsGivenAt code (record { block = block; index = suc index }) path x → IsGivenAlong code x path
given_further code block index path x (inl entered) = absurd (none_contained x entered)
given_further code block index path x (inr along) = along
