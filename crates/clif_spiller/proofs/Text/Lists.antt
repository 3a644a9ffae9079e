-- Lists into which something is put, and lists that agree entry by entry.
use Rattle.std.proofs.Common.{◌≡◌, ◌∙◌, ◌<◌, ◌+◌, ℕ, zero, suc, List, [], ◌∷◌, ◌++◌, length, get_or, map, take, refl, sym, ap, ap₂, arith, inl, inr}
use Rattle.std.specs.Prelude.{Contains}
use Rattle.std.specs.List.{AllZip, insert}
use Rattle.std.proofs.Math.Seq.{drop-append_seam, take-append_seam}
use Rattle.std.proofs.lemmas.Bool.{cases_eq}
use Rattle.clif_instructions.specs.Members.{place_of}
use Rattle.clif_instructions.proofs.Members.{if_false, if_true}

pub insert_between : (front back : List ℕ) (x : ℕ) → insert (front ++ back) (length front) x ≡ front ++ x ∷ back
insert_between front back x = ap₂ (λ (xs ys : List ℕ). xs ++ x ∷ ys) (take-append_seam front back) (drop-append_seam front back)

-- another number before the first `x` makes its place one more
pub place_put : (x y : ℕ) (front back : List ℕ) → place_of x (front ++ back) ≡ length front → (y ≡ x → ⊥) → place_of x (front ++ y ∷ back) ≡ length front + 1
place_put x y [] back is apart = if_false y x 0 (place_of x back + 1) apart ∙ ap (λ n. n + 1) is
place_put x y (z ∷ front) back is apart =
    elim (cases_eq z x) [
      | inl same ↦ absurd (let none = sym (if_true z x 0 (place_of x (front ++ back) + 1) same) ∙ is in omega (arith, none))
      | inr other ↦
          let rest : place_of x (front ++ back) ≡ length front =
          (let more = sym (if_false z x 0 (place_of x (front ++ back) + 1) other) ∙ is in omega (arith, more)) in
          if_false z x 0 (place_of x (front ++ y ∷ back) + 1) other ∙ ap (λ n. n + 1) (place_put x y front back rest apart)
          ∙ (let more : length front + 1 + 1 ≡ suc (length front) + 1 = omega arith in more)
    ]

-- the place of a number that isn't before it
pub place_new : (x : ℕ) (front back : List ℕ) → ((i : ℕ) → Contains front i → i ≡ x → ⊥) → place_of x (front ++ x ∷ back) ≡ length front
place_new x [] back apart = if_true x x 0 (place_of x back + 1) refl
place_new x (z ∷ front) back apart =
    if_false z x 0 (place_of x (front ++ x ∷ back) + 1) (apart z (0, omega arith, refl))
    ∙ ap (λ n. n + 1) (place_new x front back (λ i here. apart i (suc here.0, (let inside = here.1 in omega (arith, inside)), here.2)))
    ∙ (let more : length front + 1 ≡ suc (length front) = omega arith in more)

-- an entry of the first so many
pub within_taken : (xs : List ℕ) (k y : ℕ) → Contains (take k xs) y → (j : ℕ) × (j < k) × (j < length xs) × (get_or xs j y ≡ y)
within_taken xs zero y here = absurd (none xs here)
  where
    none : (ys : List ℕ) → Contains (take 0 ys) y → ⊥
    none [] there = (let inside = there.1 in omega (arith, inside))
    none (z ∷ ys) there = (let inside = there.1 in omega (arith, inside))
within_taken [] (suc k) y here = absurd (let inside = here.1 in omega (arith, inside))
within_taken (x ∷ xs) (suc k) y (zero, inside, is) = (0, omega arith, omega arith, is)
within_taken (x ∷ xs) (suc k) y (suc j, inside, is) =
    let found = within_taken xs k y (j, omega (arith, inside), is) in
    (suc found.0, (let low = found.1 in omega (arith, low)), (let high = found.2 in omega (arith, high)), found.3)

-- lists that are as long, and agree at each place
pub zip_by_place : {A B : Type 0} (R : A → B → Type 0) (xs : List A) (ys : List B) (d : A) (e : B) → length ys ≡ length xs
    → ((k : ℕ) → k < length xs → R (get_or xs k d) (get_or ys k e)) → AllZip R xs ys
zip_by_place R [] [] d e long each = tt
zip_by_place R [] (y ∷ ys) d e long each = absurd (omega (arith, long))
zip_by_place R (x ∷ xs) [] d e long each = absurd (omega (arith, long))
zip_by_place R (x ∷ xs) (y ∷ ys) d e long each = (
  each 0 (omega arith),
  zip_by_place R xs ys d e (omega (arith, long)) (λ k inside. each (suc k) (omega (arith, inside))),
)

pub zip_at : {A B : Type 0} (R : A → B → Type 0) (xs : List A) (ys : List B) (d : A) (e : B) → AllZip R xs ys → (k : ℕ) → k < length xs → R (get_or xs k d) (get_or ys k e)
zip_at R [] ys d e zip k inside = absurd (omega (arith, inside))
zip_at R (x ∷ xs) [] d e zip k inside = absurd zip
zip_at R (x ∷ xs) (y ∷ ys) d e zip zero inside = zip.0
zip_at R (x ∷ xs) (y ∷ ys) d e zip (suc k) inside = zip_at R xs ys d e zip.1 k (omega (arith, inside))

-- of entries of the list what each pair has is so of the other relation, too
pub zip_turned : {A B : Type 0} (R S : A → B → Type 0) (xs : List A) (ys : List B) → ((x : A) (y : B) → Contains xs x → R x y → S x y) → AllZip R xs ys → AllZip S xs ys
zip_turned R S [] [] turn zip = tt
zip_turned R S [] (y ∷ ys) turn zip = absurd zip
zip_turned R S (x ∷ xs) [] turn zip = absurd zip
zip_turned R S (x ∷ xs) (y ∷ ys) turn zip = (
  turn x y (0, omega arith, refl) zip.0,
  zip_turned R S xs ys (λ u v here. turn u v (suc here.0, (let inside = here.1 in omega (arith, inside)), here.2)) zip.1,
)

pub zip_then : {A B C : Type 0} (R : A → B → Type 0) (S : B → C → Type 0) (T : A → C → Type 0) (xs : List A) (ys : List B) (zs : List C)
    → ((x : A) (y : B) (z : C) → Contains xs x → R x y → S y z → T x z) → AllZip R xs ys → AllZip S ys zs → AllZip T xs zs
zip_then R S T [] [] [] turn first second = tt
zip_then R S T [] [] (z ∷ zs) turn first second = absurd second
zip_then R S T [] (y ∷ ys) zs turn first second = absurd first
zip_then R S T (x ∷ xs) [] zs turn first second = absurd first
zip_then R S T (x ∷ xs) (y ∷ ys) [] turn first second = absurd second
zip_then R S T (x ∷ xs) (y ∷ ys) (z ∷ zs) turn first second = (
  turn x y z (0, omega arith, refl) first.0 second.0,
  zip_then R S T xs ys zs (λ u v w here. turn u v w (suc here.0, (let inside = here.1 in omega (arith, inside)), here.2)) first.1 second.1,
)

-- what the entries are made into is alike
pub zip_made : {A B C : Type 0} (R : A → B → Type 0) (p : A → C) (q : B → C) (xs : List A) (ys : List B) → ((x : A) (y : B) → Contains xs x → R x y → q y ≡ p x) → AllZip R xs ys
    → map q ys ≡ map p xs
zip_made R p q [] [] so zip = refl
zip_made R p q [] (y ∷ ys) so zip = absurd zip
zip_made R p q (x ∷ xs) [] so zip = absurd zip
zip_made R p q (x ∷ xs) (y ∷ ys) so zip =
    ap₂ (λ u us. u ∷ us) (so x y (0, omega arith, refl) zip.0)
    (zip_made R p q xs ys (λ u v here. so u v (suc here.0, (let inside = here.1 in omega (arith, inside)), here.2)) zip.1)

pub zip_same : {A : Type 0} (R : A → A → Type 0) (xs : List A) → ((x : A) → Contains xs x → R x x) → AllZip R xs xs
zip_same R [] each = tt
zip_same R (x ∷ xs) each = (each x (0, omega arith, refl), zip_same R xs (λ y here. each y (suc here.0, (let inside = here.1 in omega (arith, inside)), here.2)))

-- entries that are made of others
pub zip_each : {A B C D : Type 0} (R : C → D → Type 0) (p : A → C) (q : B → D) (xs : List A) (ys : List B) → AllZip (λ x y. R (p x) (q y)) xs ys → AllZip R (map p xs) (map q ys)
zip_each R p q [] [] zip = tt
zip_each R p q [] (y ∷ ys) zip = absurd zip
zip_each R p q (x ∷ xs) [] zip = absurd zip
zip_each R p q (x ∷ xs) (y ∷ ys) zip = (zip.0, zip_each R p q xs ys zip.1)
