-- Plain lists and options, as the proofs of this crate need them.
use Rattle.std.proofs.Common.{◌≡◌, ◌<◌, ℕ, zero, suc, List, [], ◌∷◌, length, refl, ap, arith, inl, inr, sym, ◌∙◌, Bor}
use Rattle.std.specs.Prelude.{slice_get, Option, Some, None, option_map, is_some, nat_lt, option_copied}
use Rattle.std.proofs.lemmas.Bool.{cases_lt, false_from_ne_true, lt-ltb, ltb-true}
use Rattle.std.proofs.lemmas.Option.{same_Some, none-some, slice_get_past}

-- there is an entry below the length
pub get-below : {X : Type 0} (xs : List X) (k : ℕ) → k < length xs → (x : X) × (slice_get xs k ≡ Some x)
get-below [] k inside = absurd (omega (arith, inside))
get-below (x ∷ xs) zero inside = (x, refl)
get-below (x ∷ xs) (suc k) inside = get-below xs k (omega (arith, inside))

pub there-below : {X : Type 0} (xs : List X) (k : ℕ) → is_some (slice_get xs k) ≡ nat_lt k (length xs)
there-below xs k =
    elim (cases_lt k (length xs)) [
      | inl inside ↦ let x = get-below xs k inside in ap is_some x.1 ∙ sym (lt-ltb k (length xs) inside)
      | inr past ↦
          ap is_some (slice_get_past xs k past)
          ∙ sym (false_from_ne_true (nat_lt k (length xs)) (λ below. let less : k < length xs = ltb-true k (length xs) below in omega (arith, less, past)))
    ]

-- one that was lent is there
pub copied-there : {X : Type 0} (o : Option (Bor X)) → is_some o ≡ is_some (option_copied o)
copied-there None = refl
copied-there (Some x) = refl

-- what an option was made of
pub map-some : {X Y : Type 0} (f : X → Y) (o : Option X) (y : Y) → option_map f o ≡ Some y → (x : X) × (o ≡ Some x) × (f x ≡ y)
map-some f None y found = absurd (none-some y found)
map-some f (Some x) y found = (x, refl, same_Some (f x) y found)
