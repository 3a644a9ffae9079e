-- How `src/tables.rt` keeps the records: in pages, each for a variable and eight blocks with numbers side by side. Source:
-- own.
use Rattle.std.specs.Prelude.{ℕ, zero, suc, ◌+◌, ◌-◌, ◌*◌, ◌/◌, ◌%◌, ◌^◌, ◌≡◌, ◌==◌, ◌&&◌, Bool, not, List, [], ◌∷◌, Option, Some, None, is_some, option_copied, slice_get, slice_index, slice_index_or, slice_set, false, length, ◌<◌, if◌then◌else◌}
use Rattle.std.specs.HashMap.{HashMap, get}
use Rattle.std.specs.FinMap as map
use Rattle.clif_records.specs.Tables.{Recorded, RecordMap, nothing_recorded, recorded_at}
use Rattle.clif_records.specs.Records.{recording}
use Rattle.clif_records.specs.declared.tables.Cell.{Cell}
use Rattle.clif_records.specs.declared.tables.PageAtHand.{PageAtHand}

-- the page that has a block's cell, and where in the page it is
abbrev pub page_number : ℕ → ℕ
page_number block = block / 8

abbrev pub place_in_page : ℕ → ℕ
place_in_page block = block % 8

-- 2^32 - 1, which no value has, stands for none
abbrev pub value_of_number : ℕ → Option ℕ
value_of_number number = if number == 2 ^ 32 - 1 then None else Some number

-- what a cell keeps
abbrev pub recorded_in : Cell → Recorded
recorded_in cell = record { value = value_of_number cell.value; lookups = cell.lookups }

-- where no value and no look-up is recorded there is no entry
abbrev pub is_nothing : Recorded → Bool
is_nothing recorded = not (is_some recorded.value) && recorded.lookups == 0

abbrev pub empty_cell : Cell
empty_cell = record { value = 2 ^ 32 - 1; lookups = 0 }

-- the records, but of a variable in a block what is given
abbrev pub with_recorded_at : RecordMap → ℕ → ℕ → Recorded → RecordMap
with_recorded_at records variable block recorded =
    if is_nothing recorded then map.remove records (variable, block) else map.insert records (variable, block) recorded

-- the records, but of a variable in so many blocks from this one on what the cells keep
abbrev pub with_cells : RecordMap → ℕ → ℕ → List Cell → ℕ → RecordMap
with_cells records variable first cells zero = records
with_cells records variable first cells (suc n) =
    with_recorded_at (with_cells records variable first cells n) variable (first + n) (recorded_in (slice_index_or cells n empty_cell))

-- the records that pages with these keys, a variable and a page's number, keep
unfoldable pub records_of : List ((ℕ × ℕ) × List Cell) → RecordMap
records_of [] = map.empty
records_of (page ∷ pages) = with_cells (records_of pages) page.0.0 (8 * page.0.1) page.1 8

abbrev pub records_in : {S : Type 0} → HashMap (ℕ × ℕ) (List Cell) S → RecordMap
records_in kept = records_of kept.entries

-- two keys, each a variable and a page's number, are equal where both numbers are
abbrev pub same_key : ℕ × ℕ → ℕ × ℕ → Bool
same_key p q = p.0 == q.0 && p.1 == q.1

-- the page of a variable with this number, if there is one
abbrev pub page_in : {S : Type 0} → HashMap (ℕ × ℕ) (List Cell) S → ℕ → ℕ → Option (List Cell)
page_in kept variable number = get same_key kept (variable, number)

-- the page of a variable with this number is at this place
abbrev pub HasPageAt : {S : Type 0} → HashMap (ℕ × ℕ) (List Cell) S → ℕ → ℕ → ℕ → Type 0
HasPageAt kept variable number place =
    (page : List Cell) × (slice_get kept.entries place ≡ Some ((variable, number), page)) × (page_in kept variable number ≡ Some page)

-- what the page that was found keeps at a place
abbrev pub kept_at : Option (List Cell) → ℕ → Recorded
kept_at None place = nothing_recorded
kept_at (Some cells) place = recorded_in (slice_index_or cells place empty_cell)

-- the page at hand is that of a variable with its number
abbrev pub IsAtHand : RecordMap → ℕ → PageAtHand → Type 0
IsAtHand records variable at_hand =
    (b : ℕ) → page_number b ≡ at_hand.number → recorded_at records variable b ≡ kept_at (option_copied at_hand.page) (place_in_page b)

-- a variable has no page with this number, so that nothing is recorded in its blocks
abbrev pub HasNoPage : RecordMap → ℕ → ℕ → Type 0
HasNoPage records variable number =
    (b : ℕ) → page_number b ≡ number → recorded_at records variable b ≡ nothing_recorded

-- the cell at a place keeps what a change makes of what it kept, which isn't nothing; the page's other cells stay
abbrev pub ChangesCell : List Cell → List Cell → ℕ → (Recorded → Recorded) → Type 0
ChangesCell old new place change =
    (cell : Cell)
    × (new ≡ slice_set old place cell)
    × (place < length old)
    × (recorded_in cell ≡ change (recorded_in (slice_index_or old place empty_cell)))
    × (is_nothing (recorded_in cell) ≡ false)

-- how many cells more keep something once this one does
abbrev pub added_by : List Cell → ℕ → ℕ
added_by cells place = if is_nothing (recorded_in (slice_index_or cells place empty_cell)) then 1 else 0

-- the cells of the first of these blocks, so many, keep a value, and so many cells more keep something
abbrev pub PutsRun : List ℕ → ℕ → List Cell → List Cell → ℕ → ℕ → Type 0
PutsRun blocks value old new added zero = (new ≡ old) × (added ≡ 0)
PutsRun blocks value old new added (suc k) =
    (mid : List Cell)
    × (fewer : ℕ)
    × PutsRun blocks value old mid fewer k
    × ChangesCell mid new (place_in_page (slice_index blocks k)) (recording value)
    × (added ≡ fewer + added_by mid (place_in_page (slice_index blocks k)))
