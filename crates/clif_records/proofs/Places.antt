-- Where a page is among the others, and what a write there makes of the records.
use Rattle.std.proofs.Common.{◌≡◌, ℕ, ◌/◌, ◌%◌, List, Some, true, refl, ap, sym, ◌∙◌, inl, inr, true≢false}
use Rattle.std.specs.Prelude.{slice_get}
use Rattle.std.specs.Option.{unwrap_or}
use Rattle.std.specs.Cmp.{IsEquivalence}
use Rattle.std.specs.HashMap.{HashMap, IsUnique, get}
use Rattle.std.specs.Map.{lookup_key}
use Rattle.std.proofs.lemmas.Bool.{cases_eq}
use Rattle.std.proofs.lemmas.Cmp.{and_equiv, nat_eq_equiv, on_equiv}
use Rattle.std.proofs.lemmas.Map.Made.{lookup_key_passes}
use Rattle.indexmap.specs.IndexMap.{with_value_at}
use Rattle.indexmap.proofs.CallerLemmas.{updates-with_value_at}
use Rattle.clif_records.specs.declared.tables.Cell.{Cell}
use Rattle.clif_records.specs.Tables.{Recorded}
use Rattle.clif_records.specs.Records.{HasEntry}
use Rattle.clif_records.specs.Pages.{ChangesCell, HasPageAt, page_in, records_in, same_key}
use Rattle.clif_records.proofs.Pages.{empty_page, first_differs, page_changed, second_differs}
use Rattle.clif_records.proofs.OnePage.{HasPage}

key_laws : IsEquivalence same_key
key_laws = and_equiv (on_equiv (λ (k : ℕ × ℕ). k.0) nat_eq_equiv) (on_equiv (λ (k : ℕ × ℕ). k.1) nat_eq_equiv)

-- keys that pass the test are equal
key_is : (x number : ℕ) (k : ℕ × ℕ) → same_key (x, number) k ≡ true → ◌≡◌ {A = ℕ × ℕ} k (x, number)
key_is x number k passes =
    elim (cases_eq x k.0) [
      | inr other ↦ absurd (true≢false (sym passes ∙ first_differs (x, number) k other))
      | inl variable ↦
          elim (cases_eq number k.1) [
            | inr other ↦ absurd (true≢false (sym passes ∙ second_differs (x, number) k other))
            | inl same ↦ λ i. (sym variable i, sym same i)
          ]
    ]

-- the page at a place, whose key is the one that is asked for
pub place_tested : {S : Type 0} (kept : HashMap (ℕ × ℕ) (List Cell) S) (x number place : ℕ) (k : ℕ × ℕ) (page : List Cell)
    → k.0 ≡ x → k.1 ≡ number → slice_get kept.entries place ≡ Some (k, page) → get same_key kept k ≡ Some page → HasPageAt kept x number place
place_tested kept x number place k page variable is at found =
    let same : ◌≡◌ {A = ℕ × ℕ} k (x, number) = λ i. (variable i, is i) in
    (page, at ∙ ap (λ (q : ℕ × ℕ). Some (q, page)) same, sym (ap (λ q. get same_key kept q) same) ∙ found)

-- the page that was searched, and found at a place
pub place_found : {S : Type 0} (kept : HashMap (ℕ × ℕ) (List Cell) S) (x number place : ℕ) (k : ℕ × ℕ) (page : List Cell)
    → lookup_key (same_key (x, number)) kept.entries ≡ Some k → slice_get kept.entries place ≡ Some (k, page) → page_in kept x number ≡ Some page
    → HasPageAt kept x number place
place_found kept x number place k page stored at found =
    (page, at ∙ ap (λ (q : ℕ × ℕ). Some (q, page)) (key_is x number k (lookup_key_passes (same_key (x, number)) kept.entries k stored)), found)

same_some : {A : Type 0} (x y : A) → Some x ≡ Some y → x ≡ y
same_some x y is = ap (λ r. unwrap_or r x) is

-- the page at the place is the one that is read there
pub page_found : {S : Type 0} (kept : HashMap (ℕ × ℕ) (List Cell) S) (x number place : ℕ) (k : ℕ × ℕ) (page : List Cell) → HasPageAt kept x number place
    → slice_get kept.entries place ≡ Some (k, page) → get same_key kept (x, number) ≡ Some page
page_found kept x number place k page at read =
    at.2 ∙ ap (λ (e : (ℕ × ℕ) × List Cell). Some e.1) (same_some ((x, number), at.0) (k, page) (sym at.1 ∙ read))

-- what a write at the place leaves of the pages
pub has_page : {S : Type 0} (kept : HashMap (ℕ × ℕ) (List Cell) S) (x number place : ℕ) (after : List Cell) → IsUnique same_key kept → HasPageAt kept x number place
    → HasPage kept.entries (with_value_at kept place after).entries x number after
has_page kept x number place after unique at = (updates-with_value_at kept place after key_laws unique (x, number) at.0 at.1).0

-- a cell of the page at a place was changed
pub page_written_at : {S : Type 0} (kept : HashMap (ℕ × ℕ) (List Cell) S) (x b number cell place : ℕ) (change : Recorded → Recorded) (k : ℕ × ℕ) (page after : List Cell)
    → number ≡ b / 8 → cell ≡ b % 8
    → IsUnique same_key kept → HasPageAt kept x number place → slice_get kept.entries place ≡ Some (k, page) → ChangesCell page after cell change
    → HasEntry (records_in kept) (records_in (with_value_at kept place after)) x b change
page_written_at kept x b number cell place change k page after is_number is_cell unique at read changes =
    page_changed kept.entries (with_value_at kept place after).entries (with_value_at kept place after).entries x b number cell change page after is_number is_cell
    (has_page kept x number place after unique at)
    (sym (ap (λ p. unwrap_or p empty_page) (page_found kept x number place k page at read))) changes refl
