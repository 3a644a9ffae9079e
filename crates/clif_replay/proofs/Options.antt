-- Plain lists and options, as the proofs of this crate need them.
use Rattle.std.proofs.Common.{◌≡◌, ℕ, zero, suc, List, [], ◌∷◌, ◌++◌, length, refl, ap, arith, ◌⊎◌, inl, inr}
use Rattle.std.specs.Prelude.{slice_get, Option, Some, None, option_map, Bool, true, false, if◌then◌else◌, is_some}
use Rattle.std.proofs.lemmas.Option.{same_Some, none-some}

-- the entry at the end
pub get-last : {X : Type 0} (xs : List X) (x : X) → slice_get (xs ++ x ∷ []) (length xs) ≡ Some x
get-last [] x = refl
get-last (y ∷ xs) x = get-last xs x

-- an entry of a list with one more is an old one, or the one at the end
pub get-push : {X : Type 0} (xs : List X) (y : X) (k : ℕ) (x : X) → slice_get (xs ++ y ∷ []) k ≡ Some x
    → (slice_get xs k ≡ Some x) ⊎ ((k ≡ length xs) × (y ≡ x))
get-push [] y zero x found = inr (refl, same_Some y x found)
get-push [] y (suc k) x found = absurd (none-some x found)
get-push (z ∷ xs) y zero x found = inl found
get-push (z ∷ xs) y (suc k) x found = elim (get-push xs y k x found) [ inl old ↦ inl old | inr last ↦ inr (omega (arith, last.0), last.1) ]

pub some-is : {X : Type 0} (o : Option X) → is_some o ≡ true → (x : X) × (o ≡ Some x)
some-is None there = let no_way : ⊥ = cc in absurd no_way
some-is (Some x) there = (x, refl)

-- the name of a number, if there is one
pub name-of-some : {X : Type 0} (names : ℕ → Option X) (name : Option X) (number : ℕ) → option_map Some name ≡ option_map names (Some number)
    → (x : X) × (name ≡ Some x) × (names number ≡ Some x)
name-of-some names None number same = let no_way : ⊥ = cc in absurd no_way
name-of-some names (Some x) number same = (x, refl, cc)

pub name-of-none : {X : Type 0} (names : ℕ → Option X) (name : Option X) → option_map Some name ≡ option_map names None → name ≡ None
name-of-none names None same = refl
name-of-none names (Some x) same = let no_way : ⊥ = cc in absurd no_way

-- a choice by a test that fails
pub if-no : {X : Type 0} (b : Bool) (x y : X) → b ≡ false → (if b then x else y) ≡ y
if-no b x y fails = ap (λ c. if c then x else y) fails
