-- Places that get bits all at once: which ones keep theirs, and names and their answers get the same.
use Rattle.std.proofs.Common.{◌≡◌, ◌≢◌, ℕ, zero, suc, ◌<◌, Bool, true, false, List, [], ◌∷◌, ◌++◌, map, length, slice_index_or, Contains, ◌⊎◌, inl, inr, refl, sym, ap, ap₂, subst, arith}
use Rattle.std.proofs.lemmas.Bool.Decides.{nat_tests}
use Rattle.clif_meaning.specs.Name.{Name, answer_of, same_name}
use Rattle.clif_meaning.specs.Store.{assigned}
use Rattle.clif_meaning.specs.FunctionMachine.{same_value}

-- an element of a list, by its places from the front
abbrev pub In : {X : Type 0} → X → List X → Type 0
In x [] = ⊥
In x (y ∷ ys) = (x ≡ y) ⊎ In x ys

pub contained_in : {X : Type 0} (xs : List X) (x : X) → Contains xs x → In x xs
contained_in [] x h = absurd (omega (arith, h.1))
contained_in {X} (y ∷ ys) x h = by h.0 h.1 h.2 (contained_in ys x)
  where
    by : (k : ℕ) → k < length (y ∷ ys) → slice_index_or (y ∷ ys) k x ≡ x → (Contains ys x → In x ys) → In x (y ∷ ys)
    by zero below here later = inl (sym here)
    by (suc k) below here later = inr (later (k, omega arith, here))

pub in_contained : {X : Type 0} (xs : List X) (x : X) → In x xs → Contains xs x
in_contained [] x h = absurd h
in_contained {X} (y ∷ ys) x h = by h (in_contained ys x)
  where
    by : (x ≡ y) ⊎ In x ys → (In x ys → Contains ys x) → Contains (y ∷ ys) x
    by (inl here) later = (zero, omega arith, sym here)
    by (inr there) later = let found = later there in (suc found.0, omega (arith, found.1), found.2)

-- what is in the first of two lists is among both
in_first : {X : Type 0} (xs ys : List X) (x : X) → In x xs → In x (xs ++ ys)
in_first [] ys x h = absurd h
in_first (z ∷ xs) ys x (inl here) = inl here
in_first (z ∷ xs) ys x (inr there) = inr (in_first xs ys x there)

pub first_contained : {X : Type 0} (xs ys : List X) (x : X) → In x xs → Contains (xs ++ ys) x
first_contained xs ys x there = in_contained (xs ++ ys) x (in_first xs ys x there)

-- two names are one, and the test says so, or they aren't
pub same_or_other : (a b : Name) → ((same_name a b ≡ true) × (a ≡ b)) ⊎ ((same_name a b ≡ false) × (a ≢ b))
same_or_other a b = by (same_name a b) refl
  where
    by : (test : Bool) → same_name a b ≡ test → ((same_name a b ≡ true) × (a ≡ b)) ⊎ ((same_name a b ≡ false) × (a ≢ b))
    by true e =
        let place : a.place ≡ b.place = grind (arith, nat_tests) in
        let index : a.index ≡ b.index = grind (arith, nat_tests) in
        inl (e, ap₂ (λ (p i : ℕ). answer_of p i) place index)
    by false e = inr (
      e,
      λ h.
          let place : a.place ≡ b.place = ap (λ (n : Name). n.place) h in
          let index : a.index ≡ b.index = ap (λ (n : Name). n.index) h in
          grind (arith, nat_tests),
    )

same_number : (v : ℕ) → same_value v v ≡ true
same_number v = grind (arith, nat_tests)

pub other_number : (v w : ℕ) → v ≢ w → same_value v w ≡ false
other_number v w ne = grind (arith, nat_tests)

-- a name that isn't among them keeps its bits
pub name_keeps : (results : List Name) (bits : List ℕ) (old : Name → ℕ) (n : Name) → (In n results → ⊥)
    → assigned same_name results bits old n ≡ old n
name_keeps [] bits old n other = refl
name_keeps (r ∷ results) [] old n other = refl
name_keeps (r ∷ results) (b ∷ bits) old n other =
    elim (same_or_other n r) [
      | inl same ↦ absurd (other (inl same.1))
      | inr apart ↦ rw (apart.0) (name_keeps results bits old n (λ there. other (inr there)))
    ]

-- a value that isn't the answer of one of them keeps its bits
pub value_keeps : (answered : Name → ℕ) (results : List Name) (bits : List ℕ) (old : ℕ → ℕ) (v : ℕ)
    → ((n : Name) → In n results → v ≢ answered n) → assigned same_value (map answered results) bits old v ≡ old v
value_keeps answered [] bits old v other = refl
value_keeps answered (r ∷ results) [] old v other = refl
value_keeps answered (r ∷ results) (b ∷ bits) old v other =
    rw (other_number v (answered r) (other r (inl refl))) (value_keeps answered results bits old v (λ n there. other n (inr there)))

-- a name among them and its answer get the same, where different names have different answers
pub same_given : (answered : Name → ℕ) (results : List Name) (bits : List ℕ) (names : Name → ℕ) (values : ℕ → ℕ) (n : Name)
    → ((a b : Name) → In a results → In b results → answered a ≡ answered b → a ≡ b)
    → In n results → names n ≡ values (answered n)
    → assigned same_name results bits names n ≡ assigned same_value (map answered results) bits values (answered n)
same_given answered [] bits names values n apart there before = absurd there
same_given answered (r ∷ results) [] names values n apart there before = before
same_given answered (r ∷ results) (b ∷ bits) names values n apart there before =
    by (same_or_other n r) there (λ later. same_given answered results bits names values n (λ a b in_a in_b. apart a b (inr in_a) (inr in_b)) later before)
  where
    by : ((same_name n r ≡ true) × (n ≡ r)) ⊎ ((same_name n r ≡ false) × (n ≢ r)) → (n ≡ r) ⊎ In n results
        → (In n results → assigned same_name results bits names n ≡ assigned same_value (map answered results) bits values (answered n))
        → assigned same_name (r ∷ results) (b ∷ bits) names n ≡ assigned same_value (map answered (r ∷ results)) (b ∷ bits) values (answered n)
    by (inl same) there rest =
        let one : same_value (answered n) (answered r) ≡ true = subst (λ (m : Name). same_value (answered n) (answered m) ≡ true) same.1 (same_number (answered n)) in
        rw (same.0, one) refl
    by (inr other) (inl here) rest = absurd (other.1 here)
    by (inr other) (inr later) rest =
        let two : same_value (answered n) (answered r) ≡ false =
        other_number (answered n) (answered r) (λ e. other.1 (apart n r (inr later) (inl refl) e)) in
        rw (other.0, two) (rest later)

-- the same where there are as many bits as names, whatever they had before
pub same_all : (answered : Name → ℕ) (results : List Name) (bits : List ℕ) (names : Name → ℕ) (values : ℕ → ℕ) (n : Name)
    → ((a b : Name) → In a results → In b results → answered a ≡ answered b → a ≡ b)
    → In n results → length bits ≡ length results
    → assigned same_name results bits names n ≡ assigned same_value (map answered results) bits values (answered n)
same_all answered [] bits names values n apart there as_many = absurd there
same_all answered (r ∷ results) [] names values n apart there as_many = absurd (omega (arith, as_many))
same_all answered (r ∷ results) (b ∷ bits) names values n apart there as_many =
    by (same_or_other n r) there
    (λ later. same_all answered results bits names values n (λ a b in_a in_b. apart a b (inr in_a) (inr in_b)) later (omega (arith, as_many)))
  where
    by : ((same_name n r ≡ true) × (n ≡ r)) ⊎ ((same_name n r ≡ false) × (n ≢ r)) → (n ≡ r) ⊎ In n results
        → (In n results → assigned same_name results bits names n ≡ assigned same_value (map answered results) bits values (answered n))
        → assigned same_name (r ∷ results) (b ∷ bits) names n ≡ assigned same_value (map answered (r ∷ results)) (b ∷ bits) values (answered n)
    by (inl same) there rest =
        let one : same_value (answered n) (answered r) ≡ true = subst (λ (m : Name). same_value (answered n) (answered m) ≡ true) same.1 (same_number (answered n)) in
        rw (same.0, one) refl
    by (inr other) (inl here) rest = absurd (other.1 here)
    by (inr other) (inr later) rest =
        let two : same_value (answered n) (answered r) ≡ false =
        other_number (answered n) (answered r) (λ e. other.1 (apart n r (inr later) (inl refl) e)) in
        rw (other.0, two) (rest later)
