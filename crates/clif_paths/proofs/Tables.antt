-- Tables with one entry changed.
use Rattle.std.proofs.Common.{◌≡◌, ◌≢◌, ℕ, true, false, ◌==◌, Option, None, Some, ◌⊎◌, inl, inr, refl, sym, ◌∙◌, ap, arith}
use Rattle.std.proofs.Math.Decide.{ℕ_discrete}
use Rattle.std.proofs.lemmas.Bool.Decides.{nat_tests}
use Rattle.clif_paths.specs.Places.{Place}
use Rattle.clif_paths.specs.Steps.{updated, updated_at, aliased}
use Rattle.clif_paths.proofs.PathLemmas.{same_place-equal, same_place-other, dec_place}

pub number_equal : (a b : ℕ) → a ≡ b → (a == b) ≡ true
number_equal a b e = grind (arith, nat_tests)

pub number_other : (a b : ℕ) → a ≢ b → (a == b) ≡ false
number_other a b ne = grind (arith, nat_tests)

pub updated-same : {A : Type 0} → (table : ℕ → A) (k : ℕ) (new : A) (i : ℕ) → i ≡ k → updated table k new i ≡ new
unfolding updated
updated-same table k new i e = rw (number_equal i k e) refl

pub updated-other : {A : Type 0} → (table : ℕ → A) (k : ℕ) (new : A) (i : ℕ) → i ≢ k → updated table k new i ≡ table i
unfolding updated
updated-other table k new i ne = rw (number_other i k ne) refl

updated_decided : {A : Type 0} → (table : ℕ → A) (k : ℕ) (new : A) (i : ℕ) → Dec (i ≡ k) → ((i ≡ k) × (updated table k new i ≡ new)) ⊎ ((i ≢ k) × (updated table k new i ≡ table i))
updated_decided table k new i (yes e) = inl (e, updated-same table k new i e)
updated_decided table k new i (no ne) = inr (ne, updated-other table k new i ne)

pub updated_cases : {A : Type 0} → (table : ℕ → A) (k : ℕ) (new : A) (i : ℕ) → ((i ≡ k) × (updated table k new i ≡ new)) ⊎ ((i ≢ k) × (updated table k new i ≡ table i))
updated_cases table k new i = updated_decided table k new i (ℕ_discrete i k)

pub updated_at-same : {A : Type 0} → (table : Place → A) (k : Place) (new : A) (i : Place) → i ≡ k → updated_at table k new i ≡ new
unfolding updated_at
updated_at-same table k new i e = rw (same_place-equal i k e) refl

pub updated_at-other : {A : Type 0} → (table : Place → A) (k : Place) (new : A) (i : Place) → i ≢ k → updated_at table k new i ≡ table i
unfolding updated_at
updated_at-other table k new i ne = rw (same_place-other i k ne) refl

updated_at_decided : {A : Type 0} → (table : Place → A) (k : Place) (new : A) (i : Place) → Dec (i ≡ k) → ((i ≡ k) × (updated_at table k new i ≡ new)) ⊎ ((i ≢ k) × (updated_at table k new i ≡ table i))
updated_at_decided table k new i (yes e) = inl (e, updated_at-same table k new i e)
updated_at_decided table k new i (no ne) = inr (ne, updated_at-other table k new i ne)

pub updated_at_cases : {A : Type 0} → (table : Place → A) (k : Place) (new : A) (i : Place) → ((i ≡ k) × (updated_at table k new i ≡ new)) ⊎ ((i ≢ k) × (updated_at table k new i ≡ table i))
updated_at_cases table k new i = updated_at_decided table k new i (dec_place i k)

aliased_decided :
    (resolve : ℕ → ℕ) (v target u : ℕ) → Dec (resolve u ≡ v) →
    ((resolve u ≡ v) × (aliased resolve v target u ≡ target)) ⊎ ((resolve u ≢ v) × (aliased resolve v target u ≡ resolve u))
unfolding aliased
aliased_decided resolve v target u (yes e) = inl (e, rw (number_equal (resolve u) v e) refl)
aliased_decided resolve v target u (no ne) = inr (ne, rw (number_other (resolve u) v ne) refl)

pub aliased_cases :
    (resolve : ℕ → ℕ) (v target u : ℕ) →
    ((resolve u ≡ v) × (aliased resolve v target u ≡ target)) ⊎ ((resolve u ≢ v) × (aliased resolve v target u ≡ resolve u))
aliased_cases resolve v target u = aliased_decided resolve v target u (ℕ_discrete (resolve u) v)

-- what a table of records says after one entry is changed: the new entry, or what it said elsewhere
record_here :
    (records : Place → ℕ → Option ℕ) (p : Place) (x v : ℕ) (q : Place) (y w : ℕ) → q ≡ p →
    updated (records p) x (Some v) y ≡ Some w →
    ((y ≡ x) × (updated (records p) x (Some v) y ≡ Some v)) ⊎ ((y ≢ x) × (updated (records p) x (Some v) y ≡ records p y)) →
    ((q ≡ p) × (y ≡ x) × (v ≡ w)) ⊎ ((q ≡ p → y ≢ x) × (records q y ≡ Some w))
record_here records p x v q y w e here (inl c) = let same : v ≡ w = let h = c.1 in cc in inl (e, c.0, same)
record_here records p x v q y w e here (inr c) = inr (λ at. c.0, ap (λ r. records r y) e ∙ sym c.1 ∙ here)

record_by :
    (records : Place → ℕ → Option ℕ) (p : Place) (x v : ℕ) (q : Place) (y w : ℕ) →
    updated_at records p (updated (records p) x (Some v)) q y ≡ Some w →
    ((q ≡ p) × (updated_at records p (updated (records p) x (Some v)) q ≡ updated (records p) x (Some v))) ⊎
    ((q ≢ p) × (updated_at records p (updated (records p) x (Some v)) q ≡ records q)) →
    ((q ≡ p) × (y ≡ x) × (v ≡ w)) ⊎ ((q ≡ p → y ≢ x) × (records q y ≡ Some w))
record_by records p x v q y w here (inl c) =
    record_here records p x v q y w c.0 (sym (ap (λ t. t y) c.1) ∙ here) (updated_cases (records p) x (Some v) y)
record_by records p x v q y w here (inr c) = inr (λ at. absurd (c.0 at), sym (ap (λ t. t y) c.1) ∙ here)

pub record_cases :
    (records : Place → ℕ → Option ℕ) (p : Place) (x v : ℕ) (q : Place) (y w : ℕ) →
    updated_at records p (updated (records p) x (Some v)) q y ≡ Some w →
    ((q ≡ p) × (y ≡ x) × (v ≡ w)) ⊎ ((q ≡ p → y ≢ x) × (records q y ≡ Some w))
record_cases records p x v q y w here =
    record_by records p x v q y w here (updated_at_cases records p (updated (records p) x (Some v)) q)

record_kept_here :
    (records : Place → ℕ → Option ℕ) (p : Place) (x v : ℕ) (q : Place) (y w : ℕ) → records p x ≡ None → records q y ≡ Some w → q ≡ p →
    ((y ≡ x) × (updated (records p) x (Some v) y ≡ Some v)) ⊎ ((y ≢ x) × (updated (records p) x (Some v) y ≡ records p y)) →
    updated (records p) x (Some v) y ≡ Some w
record_kept_here records p x v q y w none here e (inl c) =
    let both : records p x ≡ Some w = ap (λ z. records p z) (sym c.0) ∙ ap (λ r. records r y) (sym e) ∙ here in
    let none_here : records p x ≡ None = none in
    cc
record_kept_here records p x v q y w none here e (inr c) = c.1 ∙ ap (λ r. records r y) (sym e) ∙ here

record_kept_by :
    (records : Place → ℕ → Option ℕ) (p : Place) (x v : ℕ) (q : Place) (y w : ℕ) → records p x ≡ None → records q y ≡ Some w →
    ((q ≡ p) × (updated_at records p (updated (records p) x (Some v)) q ≡ updated (records p) x (Some v))) ⊎
    ((q ≢ p) × (updated_at records p (updated (records p) x (Some v)) q ≡ records q)) →
    updated_at records p (updated (records p) x (Some v)) q y ≡ Some w
record_kept_by records p x v q y w none here (inl c) =
    ap (λ t. t y) c.1 ∙ record_kept_here records p x v q y w none here c.0 (updated_cases (records p) x (Some v) y)
record_kept_by records p x v q y w none here (inr c) = ap (λ t. t y) c.1 ∙ here

-- an entry that stands is kept, where only an empty one is changed
pub record_kept :
    (records : Place → ℕ → Option ℕ) (p : Place) (x v : ℕ) (q : Place) (y w : ℕ) → records p x ≡ None → records q y ≡ Some w →
    updated_at records p (updated (records p) x (Some v)) q y ≡ Some w
record_kept records p x v q y w none here =
    record_kept_by records p x v q y w none here (updated_at_cases records p (updated (records p) x (Some v)) q)

-- the changed entry
pub record_new :
    (records : Place → ℕ → Option ℕ) (p : Place) (x v : ℕ) → updated_at records p (updated (records p) x (Some v)) p x ≡ Some v
record_new records p x v =
    ap (λ t. t x) (updated_at-same records p (updated (records p) x (Some v)) p refl) ∙ updated-same (records p) x (Some v) x refl

record_other_here :
    (records : Place → ℕ → Option ℕ) (p : Place) (x v : ℕ) (q : Place) (y : ℕ) → (q ≡ p → y ≢ x) →
    ((q ≡ p) × (updated_at records p (updated (records p) x (Some v)) q ≡ updated (records p) x (Some v))) ⊎
    ((q ≢ p) × (updated_at records p (updated (records p) x (Some v)) q ≡ records q)) →
    updated_at records p (updated (records p) x (Some v)) q y ≡ records q y
record_other_here records p x v q y ne (inl c) =
    ap (λ t. t y) c.1 ∙ updated-other (records p) x (Some v) y (ne c.0) ∙ ap (λ r. records r y) (sym c.0)
record_other_here records p x v q y ne (inr c) = ap (λ t. t y) c.1

-- every other entry
pub record_other :
    (records : Place → ℕ → Option ℕ) (p : Place) (x v : ℕ) (q : Place) (y : ℕ) → (q ≡ p → y ≢ x) →
    updated_at records p (updated (records p) x (Some v)) q y ≡ records q y
record_other records p x v q y ne =
    record_other_here records p x v q y ne (updated_at_cases records p (updated (records p) x (Some v)) q)
