-- Laws of the words for what the reading calls answer.
use Rattle.std.proofs.Common.{◌≡◌, ◌≢◌, ℕ, zero, suc, ◌+◌, ◌<◌, List, [], ◌∷◌, length, refl, ap, arith, sym, ◌∙◌, subst, inl, inr, ◌==◌, Bool, true, false}
use Rattle.std.specs.Prelude.{slice_index, slice_get, if◌then◌else◌, remove, drop}
use Rattle.std.proofs.lemmas.Grind.{common_steps}
use Rattle.std.proofs.lemmas.Bool.{cases_eq}
use Rattle.clif_instructions.specs.Members.{Stands, Once, next_in, without, place_of, stands_in}
use Rattle.std.proofs.lemmas.List.Folds.{list_any_at}

-- a choice by a test that is true, and by one that is false
pub if_true : {X : Type 0} (y x : ℕ) (a b : X) → y ≡ x → (if y == x then a else b) ≡ a
if_true y x a b same = grind (arith, common_steps, same)

pub if_false : {X : Type 0} (y x : ℕ) (a b : X) → y ≢ x → (if y == x then a else b) ≡ b
if_false y x a b other = grind (arith, common_steps, other)

pub Once-tail : (y : ℕ) (ys : List ℕ) → Once (y ∷ ys) → Once ys
Once-tail y ys once j k before inside = once (suc j) (suc k) (omega (arith, before)) (omega (arith, inside))

-- what follows the only `x` is what follows its place
pub next_in-at : (xs : List ℕ) (k x : ℕ) → Once xs → k < length xs → slice_index xs k ≡ x → next_in xs x ≡ slice_get xs (k + 1)
next_in-at [] k x once inside at = absurd (omega (arith, inside))
next_in-at (y ∷ ys) zero x once inside at = if_true y x _ _ at
next_in-at (y ∷ ys) (suc k) x once inside at =
    let other : y ≢ x = λ same. once 0 (suc k) (omega arith) inside (same ∙ sym at) in
    let more : suc (k + 1) ≡ suc k + 1 = omega arith in
    if_false y x _ _ other ∙ next_in-at ys k x (Once-tail y ys once) (omega (arith, inside)) at ∙ ap (λ n. slice_get (y ∷ ys) n) more

-- the place of the first `x`
pub place_of-first : (xs : List ℕ) (k x : ℕ) → k < length xs → slice_index xs k ≡ x → ((j : ℕ) → j < k → slice_index xs j ≢ x) → place_of x xs ≡ k
place_of-first [] k x inside at before = absurd (omega (arith, inside))
place_of-first (y ∷ ys) zero x inside at before = if_true y x _ _ at
place_of-first (y ∷ ys) (suc k) x inside at before =
    let rest : place_of x ys ≡ k = place_of-first ys k x (omega (arith, inside)) at (λ j below. before (suc j) (omega (arith, below))) in
    let more : k + 1 ≡ suc k = omega arith in
    if_false y x _ _ (before 0 (omega arith)) ∙ ap (λ n. n + 1) rest ∙ more

-- to take the first `x` away is to take away what stands at its place
pub without-remove : (xs : List ℕ) (x : ℕ) → Stands x xs → remove xs (place_of x xs) ≡ without x xs
without-remove [] x here = absurd (omega (arith, here.1))
without-remove (y ∷ ys) x here =
    elim (cases_eq y x) [
      | inl same ↦
          ap (λ k. remove (y ∷ ys) k) (if_true y x 0 (place_of x ys + 1) same) ∙ sym (if_true y x ys (y ∷ without x ys) same)
      | inr other ↦
          let more : place_of x ys + 1 ≡ suc (place_of x ys) = omega arith in
          ap (λ k. remove (y ∷ ys) k) (if_false y x 0 (place_of x ys + 1) other ∙ more)
          ∙ ap (λ zs. y ∷ zs) (without-remove ys x (behind here other))
          ∙ sym (if_false y x ys (y ∷ without x ys) other)
    ]
  where
    behind : Stands x (y ∷ ys) → y ≢ x → Stands x ys
    behind (zero, inside, at) other = absurd (other at)
    behind (suc k, inside, at) other = (k, omega (arith, inside), at)

plus_suc : (count k : ℕ) → suc count + k ≡ suc (count + k)
plus_suc count k = omega arith

-- what is taken away behind the first ones is taken away from what is behind them
pub drop-remove : {X : Type 0} (count k : ℕ) (xs : List X) → drop count (remove xs (count + k)) ≡ remove (drop count xs) k
drop-remove zero k xs =
    let same : 0 + k ≡ k = omega arith in
    ap (λ n. remove xs n) same
drop-remove (suc count) zero [] = ap (λ n. drop (suc count) (remove [] n)) (plus_suc count 0)
drop-remove (suc count) (suc k) [] = ap (λ n. drop (suc count) (remove [] n)) (plus_suc count (suc k))
drop-remove (suc count) k (x ∷ xs) = ap (λ n. drop (suc count) (remove (x ∷ xs) n)) (plus_suc count k) ∙ drop-remove count k xs

pub ruleset place_rules = (place_of-first, without-remove, drop-remove)

-- all but `v` still stand without it
pub Stands-without : (x v : ℕ) (xs : List ℕ) → x ≢ v → Stands x xs → Stands x (without v xs)
Stands-without x v [] other here = absurd (omega (arith, here.1))
Stands-without x v (y ∷ ys) other (zero, inside, at) =
    subst (λ zs. Stands x zs) (sym (if_false y v ys (y ∷ without v ys) (λ same. other (sym at ∙ same)))) (0, omega arith, at)
Stands-without x v (y ∷ ys) other (suc k, inside, at) =
    let behind : Stands x ys = (k, omega (arith, inside), at) in
    elim (cases_eq y v) [
      | inl same ↦ subst (λ zs. Stands x zs) (sym (if_true y v ys (y ∷ without v ys) same)) behind
      | inr differs ↦
          let rest : Stands x (without v ys) = Stands-without x v ys other behind in
          subst (λ zs. Stands x zs) (sym (if_false y v ys (y ∷ without v ys) differs)) (suc rest.0, omega (arith, rest.1), rest.2)
    ]

-- what stands without `v` stood there, and is another number
pub without-stood : (v : ℕ) (xs : List ℕ) (k : ℕ) → Once xs → k < length (without v xs) → Stands (slice_index (without v xs) k) xs × (slice_index (without v xs) k ≢ v)
without-stood v [] k once = λ inside. absurd (omega (arith, inside))
without-stood v (y ∷ ys) k once =
    elim (cases_eq y v) [
      | inl same ↦
          subst (λ zs. k < length zs → Stands (slice_index zs k) (y ∷ ys) × (slice_index zs k ≢ v)) (sym (if_true y v ys (y ∷ without v ys) same))
          (λ inside. ((suc k, omega (arith, inside), refl), λ equal. once 0 (suc k) (omega arith) (omega (arith, inside)) (same ∙ sym equal)))
      | inr differs ↦
          subst (λ zs. k < length zs → Stands (slice_index zs k) (y ∷ ys) × (slice_index zs k ≢ v)) (sym (if_false y v ys (y ∷ without v ys) differs))
          (head_or_rest (λ j inside. without-stood v ys j (Once-tail y ys once) inside) differs k)
    ]
  where
    head_or_rest : ((j : ℕ) → j < length (without v ys) → Stands (slice_index (without v ys) j) ys × (slice_index (without v ys) j ≢ v)) → y ≢ v
        → (j : ℕ) → j < length (y ∷ without v ys) → Stands (slice_index (y ∷ without v ys) j) (y ∷ ys) × (slice_index (y ∷ without v ys) j ≢ v)
    head_or_rest rest differs zero inside = ((0, omega arith, refl), differs)
    head_or_rest rest differs (suc j) inside =
        let there : Stands (slice_index (without v ys) j) ys × (slice_index (without v ys) j ≢ v) = rest j (omega (arith, inside)) in
        ((suc (there.0).0, omega (arith, (there.0).1), (there.0).2), there.1)

-- no number stands twice without `v`
pub Once-without : (v : ℕ) (xs : List ℕ) → Once xs → Once (without v xs)
Once-without v [] once = once
Once-without v (y ∷ ys) once =
    elim (cases_eq y v) [
      | inl same ↦ subst (λ zs. Once zs) (sym (if_true y v ys (y ∷ without v ys) same)) (Once-tail y ys once)
      | inr differs ↦
          subst (λ zs. Once zs) (sym (if_false y v ys (y ∷ without v ys) differs))
          (pairs (Once-without v ys (Once-tail y ys once)) (λ k inside. (without-stood v ys k (Once-tail y ys once) inside).0))
    ]
  where
    pairs : Once (without v ys) → ((k : ℕ) → k < length (without v ys) → Stands (slice_index (without v ys) k) ys) → Once (y ∷ without v ys)
    pairs rest stood zero zero before inside = absurd (omega (arith, before))
    pairs rest stood zero (suc k) before inside =
        let there : Stands (slice_index (without v ys) k) ys = stood k (omega (arith, inside)) in
        λ equal. once 0 (suc there.0) (omega arith) (omega (arith, there.1)) (equal ∙ sym there.2)
    pairs rest stood (suc j) zero before inside = absurd (omega (arith, before))
    pairs rest stood (suc j) (suc k) before inside = rest j k (omega (arith, before)) (omega (arith, inside))

-- the test whether a number stands in a list tells it
pub Stands-from_test : (x : ℕ) (xs : List ℕ) → stands_in x xs ≡ true → Stands x xs
Stands-from_test x [] test = let no : ⊥ = cc in absurd no
Stands-from_test x (y ∷ ys) test =
    elim (cases_eq y x) [
      | inl same ↦ (0, omega arith, same)
      | inr other ↦
          let rest : stands_in x ys ≡ true = grind (arith, common_steps, other, test) in
          let there : Stands x ys = Stands-from_test x ys rest in
          (suc there.0, omega (arith, there.1), there.2)
    ]

pub test-from_Stands : (x : ℕ) (xs : List ℕ) → Stands x xs → stands_in x xs ≡ true
test-from_Stands x xs here = list_any_at (λ y. y == x) xs here.0 0 here.1 (grind (arith, common_steps, here.2))

-- two answers are equal where each is yes if the other is
pub same_answers : (a b : Bool) → (a ≡ true → b ≡ true) → (b ≡ true → a ≡ true) → a ≡ b
same_answers true b there back = sym (there refl)
same_answers false true there back = back refl
same_answers false false there back = refl
