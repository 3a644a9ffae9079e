-- What comes before and after the entries of a list as a number is put among them.
use Rattle.std.proofs.Common.{◌≡◌, ◌≢◌, ℕ, zero, suc, ◌+◌, ◌-◌, ◌<◌, ◌≤◌, List, length, refl, ap, arith, sym, ◌∙◌, ◌⊎◌, inl, inr}
use Rattle.std.specs.Prelude.{slice_index, slice_get, Option, Some, None}
use Rattle.std.specs.List.{insert}
use Rattle.std.proofs.lemmas.Bool.{cases_eq, cases_order}
use Rattle.std.proofs.lemmas.List.Edits.{length-insert, get_or-insert_below, get_or-insert_at, get_or-insert_above}
use Rattle.std.proofs.lemmas.Option.{slice_get-get_or, slice_get_past, slice_get_within, get_or_from_slice_get}
use Rattle.clif_instructions.specs.Members.{Once}
use Rattle.clif_instructions.proofs.Lists.{below_or_not}
use Rattle.clif_nodes.specs.Places.{last_after}
use Rattle.clif_ir.specs.Whole.{entry_before}
use Rattle.clif_ir.proofs.Inserting.{IsOld, inserted_entry}

-- THE LIST --------------------------------------------------------------------------------------------------------

some_same : {x y : ℕ} → Some x ≡ Some y → x ≡ y
some_same same = cc

none_not_some : {x : ℕ} → ◌≡◌ {A = Option ℕ} None (Some x) → ⊥
none_not_some same = cc

pub get-insert_below : (xs : List ℕ) (c x k : ℕ) → k < c → c ≤ length xs → slice_get (insert xs c x) k ≡ slice_get xs k
get-insert_below xs c x k below fits =
    slice_get-get_or (insert xs c x) k 0 (omega (arith, below, fits, length-insert xs c x fits)) ∙ ap Some (get_or-insert_below xs c x 0 k below fits)
    ∙ sym (slice_get-get_or xs k 0 (omega (arith, below, fits)))

pub get-insert_at : (xs : List ℕ) (c x : ℕ) → c ≤ length xs → slice_get (insert xs c x) c ≡ Some x
get-insert_at xs c x fits = slice_get-get_or (insert xs c x) c 0 (omega (arith, fits, length-insert xs c x fits)) ∙ ap Some (get_or-insert_at xs c x 0 fits)

pub get-insert_above : (xs : List ℕ) (c x k : ℕ) → c ≤ k → c ≤ length xs → slice_get (insert xs c x) (k + 1) ≡ slice_get xs k
get-insert_above xs c x k above fits =
    elim (below_or_not k (length xs)) [
      | inl here ↦
          slice_get-get_or (insert xs c x) (k + 1) 0 (omega (arith, here, length-insert xs c x fits)) ∙ ap Some (get_or-insert_above xs c x 0 k above fits)
          ∙ sym (slice_get-get_or xs k 0 here)
      | inr past ↦ slice_get_past (insert xs c x) (k + 1) (omega (arith, past, length-insert xs c x fits)) ∙ sym (slice_get_past xs k past)
    ]

-- the entry before a place behind the front
pub before-more : (xs : List ℕ) (k n : ℕ) → n ≡ k + 1 → entry_before xs n ≡ slice_get xs k
before-more xs k n at = let more : n ≡ suc k = omega (arith, at) in ap (entry_before xs) more

before-front : (xs : List ℕ) (n : ℕ) → n ≡ 0 → entry_before xs n ≡ None
before-front xs n at = ap (entry_before xs) at

-- where the entry before a place stands
pub before-is : (xs : List ℕ) (c p : ℕ) → entry_before xs c ≡ Some p → (0 < c) × (slice_index xs (c - 1) ≡ p) × (c ≤ length xs)
before-is xs zero p is = absurd (none_not_some is)
before-is xs (suc k) p is =
    let less : k ≡ suc k - 1 = omega arith in
    (omega arith, ap (λ j. slice_index xs j) (sym less) ∙ get_or_from_slice_get xs k p 0 is, omega (arith, slice_get_within xs k p is))

-- an entry stands at one place
pub one_place : (xs : List ℕ) (j k : ℕ) → Once xs → j < length xs → k < length xs → slice_index xs j ≡ slice_index xs k → j ≡ k
one_place xs j k once first second same = by (cases_order j k)
  where
    by : (j ≡ k) ⊎ ((j < k) ⊎ (k < j)) → j ≡ k
    by (inl equal) = equal
    by (inr (inl below)) = absurd (once j k below second same)
    by (inr (inr above)) = absurd (once k j above first (sym same))

-- an entry is the one before a place only right before it
not_before : (xs : List ℕ) (c j : ℕ) → Once xs → j < length xs → j + 1 ≢ c → entry_before xs c ≢ Some (slice_index xs j)
not_before xs c j once inside apart same =
    let there : (0 < c) × (slice_index xs (c - 1) ≡ slice_index xs j) × (c ≤ length xs) = before-is xs c _ same in
    let equal : c - 1 ≡ j = one_place xs (c - 1) j once (omega (arith, there.0, there.2)) inside there.1 in
    apart (omega (arith, equal, there.0))

-- and the one at a place only there
not_at : (xs : List ℕ) (c j : ℕ) → Once xs → j < length xs → j ≢ c → slice_get xs c ≢ Some (slice_index xs j)
not_at xs c j once inside apart same =
    apart (sym (one_place xs c j once (slice_get_within xs c _ same) inside (get_or_from_slice_get xs c _ 0 same)))

-- THE NEIGHBOURS --------------------------------------------------------------------------------------------------

-- what follows each entry
pub next_inserted : (next next' : ℕ → Option ℕ) (c x : ℕ) (xs : List ℕ) → c ≤ length xs → Once xs → ((k : ℕ) → k < length xs → slice_index xs k ≢ x)
    → next' x ≡ slice_get xs c
    → ((p : ℕ) → entry_before xs c ≡ Some p → next' p ≡ Some x)
    → ((k : ℕ) → k < length xs → entry_before xs c ≢ Some (slice_index xs k) → next' (slice_index xs k) ≡ next (slice_index xs k))
    → ((k : ℕ) → k < length xs → next (slice_index xs k) ≡ slice_get xs (k + 1))
    → (k : ℕ) → k < length (insert xs c x) → next' (slice_index (insert xs c x) k) ≡ slice_get (insert xs c x) (k + 1)
next_inserted next next' c x xs fits once new own neighbour others old k inside = by (inserted_entry c x xs fits k inside)
  where
    was : (w : IsOld c k xs (insert xs c x)) → ((k < c) × (k ≡ w.place)) ⊎ ((c < k) × (k ≡ w.place + 1)) → next' (slice_index xs w.place) ≡ slice_get (insert xs c x) (k + 1)
    was w (inl before) =
        elim (cases_eq (k + 1) c) [
          | inl last ↦
              let there : entry_before xs c ≡ Some (slice_index xs w.place) = before-more xs w.place c (omega (arith, last, before.1)) ∙ slice_get-get_or xs w.place 0 w.inside in
              neighbour (slice_index xs w.place) there ∙ sym (get-insert_at xs c x fits) ∙ ap (slice_get (insert xs c x)) (sym last)
          | inr further ↦
              let more : w.place + 1 ≡ k + 1 = omega (arith, before.1) in
              let apart : w.place + 1 ≢ c = λ same. further (sym more ∙ same) in
              others w.place w.inside (not_before xs c w.place once w.inside apart) ∙ old w.place w.inside ∙ ap (slice_get xs) more
              ∙ sym (get-insert_below xs c x (k + 1) (omega (arith, before.0, further)) fits)
        ]
    was w (inr behind) =
        let apart : w.place + 1 ≢ c = λ same. absurd (omega (arith, same, behind.0, behind.1)) in
        others w.place w.inside (not_before xs c w.place once w.inside apart) ∙ old w.place w.inside ∙ ap (slice_get xs) (sym behind.1)
        ∙ sym (get-insert_above xs c x k (omega (arith, behind.0)) fits)

    by : ((k ≡ c) × (slice_index (insert xs c x) k ≡ x)) ⊎ IsOld c k xs (insert xs c x) → next' (slice_index (insert xs c x) k) ≡ slice_get (insert xs c x) (k + 1)
    by (inl here) = ap next' here.1 ∙ own ∙ ap (slice_get xs) (sym here.0) ∙ sym (get-insert_above xs c x k (omega (arith, here.0)) fits)
    by (inr w) = ap next' w.same ∙ was w w.moved

-- what comes before each entry
pub previous_inserted : (previous previous' : ℕ → Option ℕ) (c x : ℕ) (xs : List ℕ) → c ≤ length xs → Once xs
    → previous' x ≡ entry_before xs c
    → ((n : ℕ) → slice_get xs c ≡ Some n → previous' n ≡ Some x)
    → ((k : ℕ) → k < length xs → slice_get xs c ≢ Some (slice_index xs k) → previous' (slice_index xs k) ≡ previous (slice_index xs k))
    → ((k : ℕ) → k < length xs → previous (slice_index xs k) ≡ entry_before xs k)
    → (k : ℕ) → k < length (insert xs c x) → previous' (slice_index (insert xs c x) k) ≡ entry_before (insert xs c x) k
previous_inserted previous previous' c x xs fits once own neighbour others old k inside = by (inserted_entry c x xs fits k inside)
  where
    same_before : (n : ℕ) → n ≤ c → entry_before xs n ≡ entry_before (insert xs c x) n
    same_before zero below = refl
    same_before (suc n) below = sym (get-insert_below xs c x n (omega (arith, below)) fits)

    was : (w : IsOld c k xs (insert xs c x)) → ((k < c) × (k ≡ w.place)) ⊎ ((c < k) × (k ≡ w.place + 1)) → previous' (slice_index xs w.place) ≡ entry_before (insert xs c x) k
    was w (inl before) =
        let apart : w.place ≢ c = λ same. absurd (omega (arith, same, before.0, before.1)) in
        others w.place w.inside (not_at xs c w.place once w.inside apart) ∙ old w.place w.inside ∙ ap (entry_before xs) (sym before.1)
        ∙ same_before k (omega (arith, before.0))
    was w (inr behind) =
        elim (cases_eq w.place c) [
          | inl first ↦
              let there : slice_get xs c ≡ Some (slice_index xs w.place) = ap (slice_get xs) (sym first) ∙ slice_get-get_or xs w.place 0 w.inside in
              neighbour (slice_index xs w.place) there ∙ sym (get-insert_at xs c x fits)
              ∙ sym (before-more (insert xs c x) c k (omega (arith, behind.1, first)))
          | inr further ↦
              let less : w.place ≡ (w.place - 1) + 1 = omega (arith, behind.0, behind.1) in
              others w.place w.inside (not_at xs c w.place once w.inside further) ∙ old w.place w.inside ∙ before-more xs (w.place - 1) w.place less
              ∙ sym (get-insert_above xs c x (w.place - 1) (omega (arith, behind.0, behind.1, further)) fits) ∙ ap (slice_get (insert xs c x)) (sym less)
              ∙ sym (before-more (insert xs c x) w.place k behind.1)
        ]

    by : ((k ≡ c) × (slice_index (insert xs c x) k ≡ x)) ⊎ IsOld c k xs (insert xs c x) → previous' (slice_index (insert xs c x) k) ≡ entry_before (insert xs c x) k
    by (inl here) = ap previous' here.1 ∙ own ∙ ap (entry_before xs) (sym here.0) ∙ same_before k (omega (arith, here.0))
    by (inr w) = ap previous' w.same ∙ was w w.moved

-- THE ENDS --------------------------------------------------------------------------------------------------------

pub first_inserted : (c x : ℕ) (xs : List ℕ) → c ≤ length xs → last_after (slice_get xs 0) (entry_before xs c) x ≡ slice_get (insert xs c x) 0
first_inserted zero x xs fits = sym (get-insert_at xs 0 x fits)
first_inserted (suc k) x xs fits =
    ap (λ previous. last_after (slice_get xs 0) previous x) (slice_get-get_or xs k 0 (omega (arith, fits))) ∙ sym (get-insert_below xs (suc k) x 0 (omega arith) fits)

pub last_inserted : (c x : ℕ) (xs : List ℕ) → c ≤ length xs
    → last_after (slice_get xs (length xs - 1)) (slice_get xs c) x ≡ slice_get (insert xs c x) (length (insert xs c x) - 1)
last_inserted c x xs fits =
    let count : length (insert xs c x) ≡ length xs + 1 = length-insert xs c x fits in
    elim (below_or_not c (length xs)) [
      | inl inside ↦
          let last : (length xs - 1) + 1 ≡ length (insert xs c x) - 1 = omega (arith, inside, count) in
          ap (λ next. last_after (slice_get xs (length xs - 1)) next x) (slice_get-get_or xs c 0 inside)
          ∙ sym (get-insert_above xs c x (length xs - 1) (omega (arith, inside)) fits) ∙ ap (slice_get (insert xs c x)) last
      | inr past ↦
          let last : c ≡ length (insert xs c x) - 1 = omega (arith, past, fits, count) in
          ap (λ next. last_after (slice_get xs (length xs - 1)) next x) (slice_get_past xs c past)
          ∙ sym (get-insert_at xs c x fits) ∙ ap (slice_get (insert xs c x)) last
    ]
