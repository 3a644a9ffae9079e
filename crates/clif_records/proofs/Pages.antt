-- What pages of cells say of a variable in a block, and what a changed cell makes of them.
use Rattle.std.proofs.Common.{◌≡◌, ◌≢◌, ℕ, zero, suc, ◌+◌, ◌*◌, ◌/◌, ◌%◌, ◌<◌, ◌⊎◌, inl, inr, List, [], ◌∷◌, Option, Some, None, Bool, true, false, cond, refl, ap, sym, ◌∙◌, subst, arith, length}
use Rattle.std.specs.Prelude.{if◌then◌else◌, ◌==◌, ◌&&◌, not, is_some, slice_index_or, slice_set}
use Rattle.std.specs.Ordering.{eq_by_cmp}
use Rattle.std.specs.Option.{unwrap_or}
use Rattle.std.specs.FinMap as map
use Rattle.std.specs.FinMap.{get-insert, get-remove, get-empty, same_map, len-insert}
use Rattle.std.specs.HashMap.{HashMap, get}
use Rattle.std.specs.Map.{lookup}
use Rattle.std.proofs.lemmas.Grind.{common_steps}
use Rattle.std.proofs.lemmas.Bool.{cases_eq}
use Rattle.clif_records.specs.declared.tables.Cell.{Cell}
use Rattle.clif_records.specs.Tables.{Recorded, RecordMap, variable_then_block, nothing_recorded, recorded_at}
use Rattle.clif_records.specs.Records.{HasEntry}
pub use Rattle.clif_records.specs.Pages.{same_key}
use Rattle.clif_records.specs.Pages.{recorded_in, is_nothing, empty_cell, with_recorded_at, with_cells, records_of, records_in, kept_at, ChangesCell, added_by}
use Rattle.clif_records.proofs.RecordMaps.{in_order, same_place, apart, itself, test_true, test_false}

-- the entry that something recorded is
abbrev pub entry_of : Recorded → Option Recorded
entry_of recorded = if is_nothing recorded then None else Some recorded

-- ONE RECORD ------------------------------------------------------------------------------------------------------

get-with_recorded_at : (m : RecordMap) (p : ℕ × ℕ) (r : Recorded) (q : ℕ × ℕ)
    → map.get (with_recorded_at m p.0 p.1 r) q ≡ cond (eq_by_cmp variable_then_block q p) (entry_of r) (map.get m q)
get-with_recorded_at m p r q = by (is_nothing r)
  where
    by : (t : Bool) → map.get (if t then map.remove m p else map.insert m p r) q ≡ cond (eq_by_cmp variable_then_block q p) (if t then None else Some r) (map.get m q)
    by true = get-remove in_order m p q
    by false = get-insert in_order m p r q

here : (m : RecordMap) (x b : ℕ) (r : Recorded) → map.get (with_recorded_at m x b r) (x, b) ≡ entry_of r
here m x b r = get-with_recorded_at m (x, b) r (x, b) ∙ ap (λ t. cond t (entry_of r) (map.get m (x, b))) (itself (x, b))

elsewhere : (m : RecordMap) (x b : ℕ) (r : Recorded) (q : ℕ × ℕ) → ◌≢◌ {A = ℕ × ℕ} q (x, b) → map.get (with_recorded_at m x b r) q ≡ map.get m q
elsewhere m x b r q other = get-with_recorded_at m (x, b) r q ∙ ap (λ t. cond t (entry_of r) (map.get m q)) (apart q (x, b) other)

-- ONE PAGE --------------------------------------------------------------------------------------------------------

abbrev pub cell_at : List Cell → ℕ → Cell
cell_at cells place = slice_index_or cells place empty_cell

outside : (m : RecordMap) (x first : ℕ) (cells : List Cell) (n y c : ℕ) → ((k : ℕ) → k < n → ◌≢◌ {A = ℕ × ℕ} (y, c) (x, first + k))
    → map.get (with_cells m x first cells n) (y, c) ≡ map.get m (y, c)
outside m x first cells zero y c other = refl
outside m x first cells (suc n) y c other =
    elsewhere (with_cells m x first cells n) x (first + n) (recorded_in (cell_at cells n)) (y, c) (other n (omega arith))
    ∙ outside m x first cells n y c (λ k below. other k (omega (arith, below)))

inside : (m : RecordMap) (x first : ℕ) (cells : List Cell) (n k : ℕ) → k < n
    → map.get (with_cells m x first cells n) (x, first + k) ≡ entry_of (recorded_in (cell_at cells k))
inside m x first cells zero k below = absurd (omega (arith, below))
inside m x first cells (suc n) k below =
    elim (cases_eq k n) [
      | inl last ↦
          ap (λ j. map.get (with_cells m x first cells (suc n)) (x, first + j)) last
          ∙ here (with_cells m x first cells n) x (first + n) (recorded_in (cell_at cells n))
          ∙ ap (λ j. entry_of (recorded_in (cell_at cells j))) (sym last)
      | inr before ↦
          elsewhere (with_cells m x first cells n) x (first + n) (recorded_in (cell_at cells n)) (x, first + k)
          (λ is. before (same_sum first k n (ap (λ (p : ℕ × ℕ). p.1) is)))
          ∙ inside m x first cells n k (omega (arith, below, before))
    ]
  where
    same_sum : (f i j : ℕ) → f + i ≡ f + j → i ≡ j
    same_sum f i j is = omega (arith, is)

-- no page keeps nothing
pub no_pages : records_of [] ≡ map.empty
unfolding records_of
no_pages = refl

-- ALL PAGES -------------------------------------------------------------------------------------------------------

split : (b : ℕ) → 8 * (b / 8) + b % 8 ≡ b
split b = omega arith

small : (b : ℕ) → b % 8 < 8
small b = omega arith

both_true : (s t : Bool) → s ≡ true → t ≡ true → (s && t) ≡ true
both_true s t p q = ap (λ u. u && t) p ∙ q

none_first : (s t : Bool) → s ≡ false → (s && t) ≡ false
none_first s t p = ap (λ u. u && t) p

none_second : (s t : Bool) → t ≡ false → (s && t) ≡ false
none_second true t p = p
none_second false t p = refl

pub key_same : (p q : ℕ × ℕ) → p.0 ≡ q.0 → p.1 ≡ q.1 → same_key p q ≡ true
key_same p q i j = both_true (p.0 == q.0) (p.1 == q.1) (test_true p.0 q.0 i) (test_true p.1 q.1 j)

pub first_differs : (p q : ℕ × ℕ) → p.0 ≢ q.0 → same_key p q ≡ false
first_differs p q other = none_first (p.0 == q.0) (p.1 == q.1) (test_false p.0 q.0 other)

pub second_differs : (p q : ℕ × ℕ) → p.1 ≢ q.1 → same_key p q ≡ false
second_differs p q other = none_second (p.0 == q.0) (p.1 == q.1) (test_false p.1 q.1 other)

pub get-records_of : (es : List ((ℕ × ℕ) × List Cell)) (x b : ℕ)
    → map.get (records_of es) (x, b) ≡ entry_of (kept_at (lookup (same_key (x, b / 8)) es) (b % 8))
unfolding records_of
get-records_of [] x b = get-empty variable_then_block (x, b)
get-records_of (e ∷ es) x b =
    elim (cases_eq x e.0.0) [
      | inl variable ↦
          elim (cases_eq (b / 8) e.0.1) [
            | inl number ↦
                ap (map.get (records_of (e ∷ es))) (λ i. (variable i, at_place number i))
                ∙ inside (records_of es) e.0.0 (8 * e.0.1) e.1 8 (b % 8) (small b)
                ∙ sym (ap (λ t. entry_of (kept_at (cond t (Some e.1) (lookup (same_key (x, b / 8)) es)) (b % 8))) (key_same (x, b / 8) e.0 variable number))
            | inr number ↦
                outside (records_of es) e.0.0 (8 * e.0.1) e.1 8 x b (λ k below is. number (page_of b e.0.1 k below (ap (λ (p : ℕ × ℕ). p.1) is)))
                ∙ further (get-records_of es x b) (second_differs (x, b / 8) e.0 number)
          ]
      | inr variable ↦
          outside (records_of es) e.0.0 (8 * e.0.1) e.1 8 x b (λ k below is. variable (ap (λ (p : ℕ × ℕ). p.0) is))
          ∙ further (get-records_of es x b) (first_differs (x, b / 8) e.0 variable)
    ]
  where
    at_place : b / 8 ≡ e.0.1 → b ≡ 8 * e.0.1 + b % 8
    at_place number = sym (split b) ∙ ap (λ n. 8 * n + b % 8) number

    page_of : (c n k : ℕ) → k < 8 → c ≡ 8 * n + k → c / 8 ≡ n
    page_of c n k below is = omega (arith, below, is)

    further : map.get (records_of es) (x, b) ≡ entry_of (kept_at (lookup (same_key (x, b / 8)) es) (b % 8)) → same_key (x, b / 8) e.0 ≡ false
        → map.get (records_of es) (x, b) ≡ entry_of (kept_at (lookup (same_key (x, b / 8)) (e ∷ es)) (b % 8))
    further rest not_here =
        rest
        ∙ sym (ap (λ t. entry_of (kept_at (cond t (Some e.1) (lookup (same_key (x, b / 8)) es)) (b % 8))) not_here)

-- what has no entry is nothing
entry_read : (r : Recorded) → unwrap_or (entry_of r) nothing_recorded ≡ r
entry_read r = by r.value r.lookups (cases_eq r.lookups 0)
  where
    by : (value : Option ℕ) (count : ℕ) → (count ≡ 0) ⊎ (count ≢ 0)
        → unwrap_or (entry_of (record { value = value; lookups = count })) nothing_recorded ≡ record { value = value; lookups = count }
    by (Some v) count is = refl
    by None count (inl is) =
        ap (λ t. unwrap_or (if t then None else Some (record { value = None; lookups = count })) nothing_recorded) (test_true count 0 is)
        ∙ (λ i. record { value = None; lookups = sym is i })
    by None count (inr other) =
        ap (λ t. unwrap_or (if t then None else Some (record { value = None; lookups = count })) nothing_recorded) (test_false count 0 other)

pub recorded_at-pages : (es : List ((ℕ × ℕ) × List Cell)) (x b : ℕ)
    → recorded_at (records_of es) x b ≡ kept_at (lookup (same_key (x, b / 8)) es) (b % 8)
recorded_at-pages es x b =
    ap (λ e. unwrap_or e nothing_recorded) (get-records_of es x b)
    ∙ entry_read (kept_at (lookup (same_key (x, b / 8)) es) (b % 8))

pub recorded_at-found : {S : Type 0} (kept : HashMap (ℕ × ℕ) (List Cell) S) (x b : ℕ) (found : Option (List Cell)) → found ≡ get same_key kept (x, b / 8)
    → recorded_at (records_in kept) x b ≡ kept_at found (b % 8)
recorded_at-found kept x b found is = recorded_at-pages kept.entries x b ∙ ap (λ p. kept_at p (b % 8)) (sym is)

-- A CHANGED CELL --------------------------------------------------------------------------------------------------

abbrev pub empty_page : List Cell
empty_page = empty_cell ∷ empty_cell ∷ empty_cell ∷ empty_cell ∷ empty_cell ∷ empty_cell ∷ empty_cell ∷ empty_cell ∷ []

cell_set : (cells : List Cell) (i : ℕ) (cell : Cell) → i < length cells → cell_at (slice_set cells i cell) i ≡ cell
cell_set cells i cell below = grind (arith, common_steps, below)

cell_other : (cells : List Cell) (i k : ℕ) (cell : Cell) → k ≢ i → cell_at (slice_set cells i cell) k ≡ cell_at cells k
cell_other cells i k cell other = grind (arith, common_steps, other)

cell_of_empty : (k : ℕ) → cell_at empty_page k ≡ empty_cell
cell_of_empty zero = refl
cell_of_empty (suc zero) = refl
cell_of_empty (suc (suc zero)) = refl
cell_of_empty (suc (suc (suc zero))) = refl
cell_of_empty (suc (suc (suc (suc zero)))) = refl
cell_of_empty (suc (suc (suc (suc (suc zero))))) = refl
cell_of_empty (suc (suc (suc (suc (suc (suc zero)))))) = refl
cell_of_empty (suc (suc (suc (suc (suc (suc (suc zero))))))) = refl
cell_of_empty (suc (suc (suc (suc (suc (suc (suc (suc k)))))))) = refl

pub kept_or_empty : (found : Option (List Cell)) (k : ℕ) → recorded_in (cell_at (unwrap_or found empty_page) k) ≡ kept_at found k
kept_or_empty None k = ap recorded_in (cell_of_empty k)
kept_or_empty (Some cells) k = refl

-- one cell of the page at a key was changed, and keeps something now
pub cell_changed : (old : List ((ℕ × ℕ) × List Cell)) (updated new : List ((ℕ × ℕ) × List Cell)) (x b : ℕ) (change : Recorded → Recorded) (cell : Cell) (page : List Cell)
    → ((q : ℕ × ℕ) → lookup (same_key q) updated ≡ cond (same_key (x, b / 8) q) (Some (slice_set page (b % 8) cell)) (lookup (same_key q) old))
    → page ≡ unwrap_or (lookup (same_key (x, b / 8)) old) empty_page
    → b % 8 < length page
    → recorded_in cell ≡ change (recorded_in (cell_at page (b % 8)))
    → is_nothing (recorded_in cell) ≡ false
    → new ≡ updated
    → HasEntry (records_of old) (records_of new) x b change
cell_changed old updated new x b change cell page found was room is some same =
    ap records_of same
    ∙ same_map in_order same_place _ _ (λ q. at q.0 q.1)
  where
    changed : Recorded
    changed = change (recorded_at (records_of old) x b)

    was_recorded : recorded_in cell ≡ changed
    was_recorded =
        is ∙ ap (λ p. change (recorded_in (cell_at p (b % 8)))) was ∙ ap change (kept_or_empty (lookup (same_key (x, b / 8)) old) (b % 8))
        ∙ ap change (sym (recorded_at-pages old x b))

    entry : entry_of (recorded_in cell) ≡ Some changed
    entry = ap (λ t. if t then None else Some (recorded_in cell)) some ∙ ap Some was_recorded

    written : (y c : ℕ) (t : Bool) → same_key (x, b / 8) (y, c / 8) ≡ t
        → map.get (records_of updated) (y, c) ≡ entry_of (kept_at (cond t (Some (slice_set page (b % 8) cell)) (lookup (same_key (y, c / 8)) old)) (c % 8))
    written y c t same_page =
        get-records_of updated y c
        ∙ ap (λ p. entry_of (kept_at p (c % 8))) (found (y, c / 8) ∙ ap (λ u. cond u (Some (slice_set page (b % 8) cell)) (lookup (same_key (y, c / 8)) old)) same_page)

    inserted : (y c : ℕ) (t : Bool) → eq_by_cmp variable_then_block (y, c) (x, b) ≡ t
        → map.get (map.insert (records_of old) (x, b) changed) (y, c) ≡ cond t (Some changed) (map.get (records_of old) (y, c))
    inserted y c t same_entry = get-insert in_order (records_of old) (x, b) changed (y, c) ∙ ap (λ u. cond u (Some changed) (map.get (records_of old) (y, c))) same_entry

    untouched : (y c : ℕ) → same_key (x, b / 8) (y, c / 8) ≡ false → ◌≢◌ {A = ℕ × ℕ} (y, c) (x, b)
        → map.get (records_of updated) (y, c) ≡ map.get (map.insert (records_of old) (x, b) changed) (y, c)
    untouched y c off other =
        written y c false off ∙ sym (get-records_of old y c) ∙ sym (inserted y c false (apart (y, c) (x, b) other))

    same_block : (c : ℕ) → c / 8 ≡ b / 8 → c % 8 ≡ b % 8 → c ≡ b
    same_block c number place = sym (split c) ∙ (λ i. 8 * number i + place i) ∙ split b

    at : (y c : ℕ) → map.get (records_of updated) (y, c) ≡ map.get (map.insert (records_of old) (x, b) changed) (y, c)
    at y c =
        elim (cases_eq x y) [
          | inr other ↦ untouched y c (first_differs (x, b / 8) (y, c / 8) other) (λ q. other (sym (ap (λ (p : ℕ × ℕ). p.0) q)))
          | inl variable ↦
              elim (cases_eq (b / 8) (c / 8)) [
                | inr other ↦ untouched y c (second_differs (x, b / 8) (y, c / 8) other) (λ q. other (sym (ap (λ (p : ℕ × ℕ). p.1 / 8) q)))
                | inl number ↦
                    elim (cases_eq (c % 8) (b % 8)) [
                      | inl place ↦
                          written y c true (key_same (x, b / 8) (y, c / 8) variable number)
                          ∙ ap (λ k. entry_of (recorded_in (cell_at (slice_set page (b % 8) cell) k))) place
                          ∙ ap (λ d. entry_of (recorded_in d)) (cell_set page (b % 8) cell room) ∙ entry
                          ∙ sym (inserted y c true (ap (λ (p : ℕ × ℕ). eq_by_cmp variable_then_block p (x, b)) (λ i. (sym variable i, same_block c (sym number) place i)) ∙ itself (x, b)))
                      | inr place ↦
                          written y c true (key_same (x, b / 8) (y, c / 8) variable number)
                          ∙ ap (λ d. entry_of (recorded_in d)) (cell_other page (b % 8) (c % 8) cell place)
                          ∙ ap (λ p. entry_of (recorded_in (cell_at p (c % 8)))) was
                          ∙ ap entry_of (kept_or_empty (lookup (same_key (x, b / 8)) old) (c % 8))
                          ∙ ap (λ p. entry_of (kept_at (lookup (same_key p) old) (c % 8))) (λ i. (variable i, number i))
                          ∙ sym (get-records_of old y c)
                          ∙ sym (inserted y c false (apart (y, c) (x, b) (λ q. place (ap (λ (p : ℕ × ℕ). p.1 % 8) q))))
                    ]
              ]
        ]

-- HOW MANY --------------------------------------------------------------------------------------------------------

-- one record more where the cell kept nothing
pub len-changed : (old new : RecordMap) (x b : ℕ) (change : Recorded → Recorded) → HasEntry old new x b change
    → map.len new ≡ (if map.contains_key old (x, b) then map.len old else map.len old + 1)
len-changed old new x b change has =
    ap map.len has ∙ len-insert in_order old (x, b) (change (recorded_at old x b)) ∙ by (map.contains_key old (x, b))
  where
    by : (t : Bool) → cond t (map.len old) (map.len old + 1) ≡ (if t then map.len old else map.len old + 1)
    by true = refl
    by false = refl

contains-entry : (r : Recorded) → is_some (entry_of r) ≡ not (is_nothing r)
contains-entry r = by (is_nothing r)
  where
    by : (t : Bool) → is_some (if t then None else Some r) ≡ not t
    by true = refl
    by false = refl

pub contains-pages : (kept : List ((ℕ × ℕ) × List Cell)) (x b : ℕ) (page : List Cell) → page ≡ unwrap_or (lookup (same_key (x, b / 8)) kept) empty_page
    → map.contains_key (records_of kept) (x, b) ≡ not (is_nothing (recorded_in (cell_at page (b % 8))))
contains-pages kept x b page was =
    ap is_some (get-records_of kept x b) ∙ contains-entry (kept_at (lookup (same_key (x, b / 8)) kept) (b % 8))
    ∙ ap (λ r. not (is_nothing r)) (sym (kept_or_empty (lookup (same_key (x, b / 8)) kept) (b % 8)) ∙ ap (λ p. recorded_in (cell_at p (b % 8))) (sym was))

-- how many records there are after the change
pub len-after : (kept : List ((ℕ × ℕ) × List Cell)) (new : RecordMap) (x b : ℕ) (change : Recorded → Recorded) (page : List Cell)
    → page ≡ unwrap_or (lookup (same_key (x, b / 8)) kept) empty_page → HasEntry (records_of kept) new x b change
    → map.len new ≡ map.len (records_of kept) + added_by page (b % 8)
len-after kept new x b change page was has =
    len-changed (records_of kept) new x b change has
    ∙ ap (λ t. if t then map.len (records_of kept) else map.len (records_of kept) + 1) (contains-pages kept x b page was)
    ∙ by (is_nothing (recorded_in (cell_at page (b % 8))))
  where
    by : (t : Bool) → (if not t then map.len (records_of kept) else map.len (records_of kept) + 1) ≡ map.len (records_of kept) + (if t then 1 else 0)
    by true = refl
    by false = omega arith

-- the same with names for the page's number and for the cell's place
pub cell_changed_at : (old : List ((ℕ × ℕ) × List Cell)) (updated new : List ((ℕ × ℕ) × List Cell)) (x b number place : ℕ) (change : Recorded → Recorded) (cell : Cell) (page : List Cell)
    → number ≡ b / 8 → place ≡ b % 8
    → ((q : ℕ × ℕ) → lookup (same_key q) updated ≡ cond (same_key (x, number) q) (Some (slice_set page place cell)) (lookup (same_key q) old))
    → page ≡ unwrap_or (lookup (same_key (x, number)) old) empty_page
    → place < length page
    → recorded_in cell ≡ change (recorded_in (cell_at page place))
    → is_nothing (recorded_in cell) ≡ false
    → new ≡ updated
    → HasEntry (records_of old) (records_of new) x b change
cell_changed_at old updated new x b number place change cell page is_number is_place found was room is some same =
    cell_changed old updated new x b change cell page
    (subst (λ n. (q : ℕ × ℕ) → lookup (same_key q) updated ≡ cond (same_key (x, n) q) (Some (slice_set page (b % 8) cell)) (lookup (same_key q) old)) is_number
    (subst (λ k. (q : ℕ × ℕ) → lookup (same_key q) updated ≡ cond (same_key (x, number) q) (Some (slice_set page k cell)) (lookup (same_key q) old)) is_place found))
    (was ∙ ap (λ n. unwrap_or (lookup (same_key (x, n)) old) empty_page) is_number)
    (subst (λ k. k < length page) is_place room)
    (is ∙ ap (λ k. change (recorded_in (cell_at page k))) is_place)
    some same

pub len-after-at : (kept : List ((ℕ × ℕ) × List Cell)) (new : RecordMap) (x b number place : ℕ) (change : Recorded → Recorded) (page : List Cell)
    → number ≡ b / 8 → place ≡ b % 8
    → page ≡ unwrap_or (lookup (same_key (x, number)) kept) empty_page → HasEntry (records_of kept) new x b change
    → map.len new ≡ map.len (records_of kept) + added_by page place
len-after-at kept new x b number place change page is_number is_place was has =
    len-after kept new x b change page (was ∙ ap (λ n. unwrap_or (lookup (same_key (x, n)) kept) empty_page) is_number) has
    ∙ ap (λ k. map.len (records_of kept) + added_by page k) (sym is_place)

-- the number of a value isn't that of none
pub value_numbered : (n value : ℕ) → n ≡ value → value < 4294967295 → (if n == 4294967295 then None else Some n) ≡ Some value
value_numbered n value is below =
    ap (λ t. if t then None else Some n) (test_false n 4294967295 (λ at. absurd (omega (arith, below, at, is)))) ∙ ap Some is

pub has_value : (r : Recorded) (value : ℕ) → r.value ≡ Some value → is_nothing r ≡ false
has_value r value is = ap (λ (v : Option ℕ). not (is_some v) && r.lookups == 0) is

-- a cell of the page that was found, or of an empty one, was changed, and the page put
pub page_changed : (old : List ((ℕ × ℕ) × List Cell)) (new updated : List ((ℕ × ℕ) × List Cell)) (x b number place : ℕ) (change : Recorded → Recorded) (page after : List Cell)
    → number ≡ b / 8 → place ≡ b % 8
    → ((q : ℕ × ℕ) → lookup (same_key q) updated ≡ cond (same_key (x, number) q) (Some after) (lookup (same_key q) old))
    → page ≡ unwrap_or (lookup (same_key (x, number)) old) empty_page
    → ChangesCell page after place change
    → new ≡ updated
    → HasEntry (records_of old) (records_of new) x b change
page_changed old new updated x b number place change page after is_number is_place found was changes same =
    cell_changed_at old updated new x b number place change changes.0 page is_number is_place
    (λ q. found q ∙ ap (λ p. cond (same_key (x, number) q) (Some p) (lookup (same_key q) old)) changes.1)
    was changes.2 changes.3 changes.4 same

-- how many records there are once a page that was there was changed in place
pub len-written : {S : Type 0} (kept : HashMap (ℕ × ℕ) (List Cell) S) (new : RecordMap) (x b number place : ℕ) (change : Recorded → Recorded) (page : List Cell)
    → number ≡ b / 8 → place ≡ b % 8
    → get same_key kept (x, number) ≡ Some page → HasEntry (records_in kept) new x b change
    → map.len new ≡ map.len (records_in kept) + added_by page place
len-written kept new x b number place change page is_number is_place found has =
    len-after-at kept.entries new x b number place change page is_number is_place (sym (ap (λ p. unwrap_or p empty_page) found)) has

pub entry_from : (old now new : RecordMap) (x b : ℕ) (change : Recorded → Recorded) → old ≡ now → HasEntry now new x b change → HasEntry old new x b change
entry_from old now new x b change same has = has ∙ ap (λ m. map.insert m (x, b) (change (recorded_at m x b))) (sym same)
