-- Two lists, pair by pair: what a walk over both proves of them.
use Rattle.std.proofs.Common.{◌≡◌, ◌≢◌, ℕ, zero, suc, ◌+◌, ◌<◌, ◌≤◌, ◌⊎◌, inl, inr, List, [], ◌∷◌, map, length, get_or, refl, sym, ap, subst, ◌∙◌, arith}
use Rattle.std.specs.Prelude.{◌↔◌, Bool, IsTrue, true, false}
use Rattle.std.proofs.lemmas.Bool.{cases_eq}
use Rattle.std.proofs.lemmas.List.{get_or_default}

-- as many in the one as in the other, and each pair is related
abbrev pub Pairwise : {A B : Type 0} → (A → B → Type 0) → List A → List B → Type 0
Pairwise R [] [] = Unit {0}
Pairwise R (x ∷ xs) (y ∷ ys) = R x y × Pairwise R xs ys
Pairwise R _ _ = ⊥

-- the first so many pairs are related
abbrev pub Below : {A B : Type 0} → (A → B → Type 0) → ℕ → List A → List B → Type 0
Below {A} {B} R count xs ys = (k : ℕ) (d : A) (e : B) → k < count → R (get_or xs k d) (get_or ys k e)

pub pair_at : {A B : Type 0} (R : A → B → Type 0) (xs : List A) (ys : List B) → Pairwise R xs ys → (k : ℕ) (d : A) (e : B) → k < length xs
    → R (get_or xs k d) (get_or ys k e)
pair_at R [] ys pairs k d e inside = absurd (omega (arith, inside))
pair_at R (x ∷ xs) [] pairs k d e inside = absurd pairs
pair_at R (x ∷ xs) (y ∷ ys) pairs zero d e inside = pairs.0
pair_at R (x ∷ xs) (y ∷ ys) pairs (suc k) d e inside = pair_at R xs ys pairs.1 k d e (omega (arith, inside))

pub pairs_long : {A B : Type 0} (R : A → B → Type 0) (xs : List A) (ys : List B) → Pairwise R xs ys → length xs ≡ length ys
pairs_long R [] [] pairs = refl
pairs_long R [] (y ∷ ys) pairs = absurd pairs
pairs_long R (x ∷ xs) [] pairs = absurd pairs
pairs_long R (x ∷ xs) (y ∷ ys) pairs = ap (λ n. suc n) (pairs_long R xs ys pairs.1)

pub pairs_below : {A B : Type 0} (R : A → B → Type 0) (xs : List A) (ys : List B) → length xs ≡ length ys → Below R (length xs) xs ys → Pairwise R xs ys
pairs_below R [] [] long below = tt
pairs_below R [] (y ∷ ys) long below = absurd (omega (arith, long))
pairs_below R (x ∷ xs) [] long below = absurd (omega (arith, long))
pairs_below R (x ∷ xs) (y ∷ ys) long below =
    (below 0 x y (omega arith), pairs_below R xs ys (omega (arith, long)) (λ k d e inside. below (suc k) d e (omega (arith, inside))))

-- THE WALK --------------------------------------------------------------------------------------------------------------

pub below_none : {A B : Type 0} (R : A → B → Type 0) (xs : List A) (ys : List B) → Below R 0 xs ys
below_none R xs ys k d e below = absurd (omega (arith, below))

pub below_more : {A B : Type 0} (R : A → B → Type 0) (xs : List A) (ys : List B) (n : ℕ) (x : A) (y : B) → Below R n xs ys → n < length xs → length xs ≡ length ys
    → R (get_or xs n x) (get_or ys n y) → Below R (n + 1) xs ys
below_more {A} {B} R xs ys n x y below inside long related k d e at = by (cases_eq k n)
  where
    by : (k ≡ n) ⊎ (k ≢ n) → R (get_or xs k d) (get_or ys k e)
    by (inr other) = below k d e (omega (arith, at, other))
    by (inl last) =
        let at_x : get_or xs n x ≡ get_or xs k d = get_or_default xs n x d inside ∙ ap (λ j. get_or xs j d) (sym last) in
        let at_y : get_or ys n y ≡ get_or ys k e = get_or_default ys n y e (omega (arith, inside, long)) ∙ ap (λ j. get_or ys j e) (sym last) in
        subst (λ b. R (get_or xs k d) b) at_y (subst (λ a. R a (get_or ys n y)) at_x related)

-- WHAT IT ANSWERS -------------------------------------------------------------------------------------------------------

pub never : {P : Type 0} → IsTrue false → P
never {P} is = absurd (impossible is)
  where
    impossible : IsTrue false → ⊥
    impossible holds = cc

-- a test that said no
pub said_no : {P : Type 0} {test : Bool} → test ≡ false → (P → IsTrue test) → P → ⊥
said_no {P} {test} failed tells holds = impossible (sym failed ∙ tells holds)
  where
    impossible : IsTrue false → ⊥
    impossible is = cc

-- where there are not as many
pub refused_long : {A B : Type 0} {P : Type 0} (R : A → B → Type 0) (xs : List A) (ys : List B) → (P → Pairwise R xs ys) → length xs ≢ length ys → IsTrue false ↔ P
refused_long R xs ys pairs other = (λ is. never is, λ holds. absurd (other (pairs_long R xs ys (pairs holds))))

-- at a pair that isn't related
pub refused_at : {A B : Type 0} {P : Type 0} (R : A → B → Type 0) (xs : List A) (ys : List B) → (P → Pairwise R xs ys) → (n : ℕ) (x : A) (y : B) → n < length xs
    → (R (get_or xs n x) (get_or ys n y) → ⊥) → IsTrue false ↔ P
refused_at R xs ys pairs n x y inside other = (λ is. never is, λ holds. absurd (other (pair_at R xs ys (pairs holds) n x y inside)))

-- at the end
pub accepted : {A B : Type 0} {P : Type 0} (R : A → B → Type 0) (xs : List A) (ys : List B) (n : ℕ) → (Pairwise R xs ys → P) → length xs ≡ length ys → Below R n xs ys
    → length xs ≤ n → IsTrue true ↔ P
accepted R xs ys n holds long below all = (λ _. holds (pairs_below R xs ys long (λ k d e inside. below k d e (omega (arith, inside, all)))), λ _. refl)

-- RELATIONS -------------------------------------------------------------------------------------------------------------

-- two lists have the same images
pub same_images : {A B C : Type 0} (f : A → C) (g : B → C) (xs : List A) (ys : List B) → Pairwise (λ x y. f x ≡ g y) xs ys → map f xs ≡ map g ys
same_images f g [] [] pairs = refl
same_images f g [] (y ∷ ys) pairs = absurd pairs
same_images f g (x ∷ xs) [] pairs = absurd pairs
same_images {C = C} f g (x ∷ xs) (y ∷ ys) pairs =
    ap {B = List C} (λ c. c ∷ map f xs) pairs.0 ∙ ap {B = List C} (λ cs. g y ∷ cs) (same_images f g xs ys pairs.1)

pub images_same : {A B C : Type 0} (f : A → C) (g : B → C) (xs : List A) (ys : List B) → map f xs ≡ map g ys → Pairwise (λ x y. f x ≡ g y) xs ys
images_same f g [] [] same = tt
images_same f g [] (y ∷ ys) same = cc
images_same f g (x ∷ xs) [] same = cc
images_same f g (x ∷ xs) (y ∷ ys) same =
    let first : f x ≡ g y = cc in
    let rest : map f xs ≡ map g ys = cc in
    (first, images_same f g xs ys rest)
