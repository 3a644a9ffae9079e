-- A number put among those of a list.
use Rattle.std.proofs.Common.{◌≡◌, ℕ, ◌+◌, ◌-◌, ◌<◌, ◌≤◌, List, [], ◌∷◌, ◌++◌, length, refl, ap, arith, sym, ◌∙◌, subst, ◌⊎◌, inl, inr}
use Rattle.std.specs.Prelude.{slice_index}
use Rattle.std.specs.List.{insert}
use Rattle.std.proofs.lemmas.Bool.{cases_order}
use Rattle.std.proofs.lemmas.Grind.{common_steps}
use Rattle.std.proofs.lemmas.List.Edits.{length-insert, get_or-insert_below, get_or-insert_at, get_or-insert_above}
use Rattle.clif_instructions.specs.declared.insert_at.InsertAt.{InsertAt}
use Rattle.clif_instructions.specs.declared.insert_at.InsertAt.TheVariants.{Behind, Back}
use Rattle.clif_instructions.specs.Members.{IsPlaceOf, put_at, Stands, Once}
use Rattle.clif_instructions.proofs.Lists.{at_push, below_or_not}
use Rattle.clif_ir.proofs.Keeps.{Stands-append, Stands-push, Once-push}

-- an entry of the new list is an old one, whose place is one less where it is behind the new one
pub record IsOld (c k : ℕ) (xs ys : List ℕ) : Type 0 where
  pub place : ℕ
  pub inside : place < length xs
  pub same : slice_index ys k ≡ slice_index xs place
  pub moved : ((k < c) × (k ≡ place)) ⊎ ((c < k) × (k ≡ place + 1))

-- an entry of the new list is the new one or an old one
pub inserted_entry : (c x : ℕ) (xs : List ℕ) → c ≤ length xs → (k : ℕ) → k < length (insert xs c x)
    → ((k ≡ c) × (slice_index (insert xs c x) k ≡ x)) ⊎ IsOld c k xs (insert xs c x)
inserted_entry c x xs fits k inside = by (cases_order k c)
  where
    count : length (insert xs c x) ≡ length xs + 1
    count = length-insert xs c x fits

    behind : (j : ℕ) → k ≡ j + 1 → c ≤ j → IsOld c k xs (insert xs c x)
    behind j at past = record {
      place = j;
      inside = omega (arith, at, inside, count);
      same = ap (λ i. slice_index (insert xs c x) i) at ∙ get_or-insert_above xs c x 0 j past fits;
      moved = inr (omega (arith, at, past), at);
    }

    by : (k ≡ c) ⊎ ((k < c) ⊎ (c < k)) → ((k ≡ c) × (slice_index (insert xs c x) k ≡ x)) ⊎ IsOld c k xs (insert xs c x)
    by (inl same) = inl (same, ap (λ i. slice_index (insert xs c x) i) same ∙ get_or-insert_at xs c x 0 fits)
    by (inr (inl below)) = inr (record { place = k; inside = omega (arith, below, fits); same = get_or-insert_below xs c x 0 k below fits; moved = inl (below, refl) })
    by (inr (inr above)) = inr (behind (k - 1) (omega (arith, above)) (omega (arith, above)))

-- what holds of the entries of a list holds after one more is put there
pub put_at-each : (P : ℕ → Type 0) (at : InsertAt) (x : ℕ) (xs : List ℕ) → IsPlaceOf at (length xs)
    → ((k : ℕ) → k < length xs → P (slice_index xs k)) → P x
    → (k : ℕ) → k < length (put_at at x xs) → P (slice_index (put_at at x xs) k)
put_at-each P (Behind c) x xs fits old new k inside =
    elim (inserted_entry c x xs fits k inside) [
      | inl here ↦ subst P (sym here.1) new
      | inr was ↦ subst P (sym was.same) (old was.place was.inside)
    ]
put_at-each P Back x xs fits old new k inside =
    let count : length (xs ++ x ∷ []) ≡ length xs + 1 = grind (arith, common_steps) in
    at_push P xs x k 0 (old k) (λ _. new) (λ past. absurd (omega (arith, past, inside, count)))

pub put_at-Stands : (y : ℕ) (at : InsertAt) (x : ℕ) (xs : List ℕ) → IsPlaceOf at (length xs) → Stands y xs → Stands y (put_at at x xs)
put_at-Stands y (Behind c) x xs fits (k, inside, is) =
    let count : length (insert xs c x) ≡ length xs + 1 = length-insert xs c x fits in
    elim (below_or_not k c) [
      | inl below ↦ (k, omega (arith, count, inside), get_or-insert_below xs c x 0 k below fits ∙ is)
      | inr past ↦ (k + 1, omega (arith, count, inside), get_or-insert_above xs c x 0 k past fits ∙ is)
    ]
put_at-Stands y Back x xs fits here = Stands-append y xs (x ∷ []) here

pub put_at-stands : (at : InsertAt) (x : ℕ) (xs : List ℕ) → IsPlaceOf at (length xs) → Stands x (put_at at x xs)
put_at-stands (Behind c) x xs fits = (c, omega (arith, fits, length-insert xs c x fits), get_or-insert_at xs c x 0 fits)
put_at-stands Back x xs fits = Stands-push x xs

insert-Once : (c x : ℕ) (xs : List ℕ) → c ≤ length xs → Once xs → ((k : ℕ) → k < length xs → slice_index xs k < x) → Once (insert xs c x)
insert-Once c x xs fits once below j k before inside same = by (inserted_entry c x xs fits j (omega (arith, before, inside))) (inserted_entry c x xs fits k inside)
  where
    apart : (first : IsOld c j xs (insert xs c x)) (second : IsOld c k xs (insert xs c x)) → ((j < c) × (j ≡ first.place)) ⊎ ((c < j) × (j ≡ first.place + 1))
        → ((k < c) × (k ≡ second.place)) ⊎ ((c < k) × (k ≡ second.place + 1)) → first.place < second.place
    apart first second (inl a) (inl b) = omega (arith, before, a.1, b.1)
    apart first second (inl a) (inr b) = omega (arith, before, a.0, a.1, b.0, b.1)
    apart first second (inr a) (inl b) = omega (arith, before, a.0, a.1, b.0, b.1)
    apart first second (inr a) (inr b) = omega (arith, before, a.1, b.1)

    by : ((j ≡ c) × (slice_index (insert xs c x) j ≡ x)) ⊎ IsOld c j xs (insert xs c x) → ((k ≡ c) × (slice_index (insert xs c x) k ≡ x)) ⊎ IsOld c k xs (insert xs c x) → ⊥
    by (inl first) (inl second) = absurd (omega (arith, before, first.0, second.0))
    by (inl first) (inr was) = absurd (omega (arith, below was.place was.inside, same, first.1, was.same))
    by (inr was) (inl second) = absurd (omega (arith, below was.place was.inside, same, second.1, was.same))
    by (inr first) (inr second) = once first.place second.place (apart first second first.moved second.moved) second.inside (sym first.same ∙ same ∙ second.same)

pub put_at-Once : (at : InsertAt) (x : ℕ) (xs : List ℕ) → IsPlaceOf at (length xs) → Once xs → ((k : ℕ) → k < length xs → slice_index xs k < x) → Once (put_at at x xs)
put_at-Once (Behind c) x xs fits once below = insert-Once c x xs fits once below
put_at-Once Back x xs fits once below = Once-push xs x once below
