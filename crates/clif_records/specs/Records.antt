-- How `src/tables.rt` keeps the records, and what its calls make of them. Source: own.
use Rattle.std.specs.Prelude.{◌≡◌, ℕ, ◌==◌, ◌&&◌, ◌⊎◌, Bool, true, List, Option, Some, if◌then◌else◌}
use Rattle.std.specs.FinMap as map
use Rattle.clif_records.specs.Tables.{Recorded, RecordMap, recorded_at, record_at, one_more}
use Rattle.clif_instructions.specs.Members.{stands_in}
use Rattle.clif_records.specs.Passed.{before_first}

-- with this value; with one more look-up counted
abbrev pub recording : ℕ → Recorded → Recorded
recording value recorded = record recorded { value = Some value }

abbrev pub counting : Recorded → Recorded
counting recorded = record recorded { lookups = one_more recorded.lookups }

-- what is recorded of a variable in a block is changed, and is an entry then
abbrev pub HasEntry : RecordMap → RecordMap → ℕ → ℕ → (Recorded → Recorded) → Type 0
HasEntry old new variable block change = new ≡ map.insert old (variable, block) (change (recorded_at old variable block))

-- a value is recorded for a variable in the blocks that pass a test, and nowhere else
abbrev pub RecordsIn : RecordMap → RecordMap → ℕ → ℕ → (ℕ → Bool) → Type 0
RecordsIn old new variable value test =
    (v b : ℕ) → record_at new v b ≡ (if v == variable && test b then Some value else record_at old v b)

-- the value is recorded for a variable in these blocks, up to the first `from` among them
abbrev pub RecordsUpTo : RecordMap → RecordMap → ℕ → ℕ → List ℕ → ℕ → Type 0
RecordsUpTo old new variable value blocks from =
    (v b : ℕ) → record_at new v b ≡ (if v == variable && stands_in b (before_first from blocks) then Some value else record_at old v b)

-- a record is as before, or is this value, and then this holds
abbrev pub MayBeSet : Option ℕ → Option ℕ → ℕ → Type 0 → Type 0
MayBeSet old new value P = (new ≡ old) ⊎ (P × (new ≡ Some value))

-- the value is recorded for a variable in some of these blocks
abbrev pub RecordsSome : RecordMap → RecordMap → ℕ → ℕ → List ℕ → Type 0
RecordsSome old new variable value blocks =
    (v b : ℕ) → MayBeSet (record_at old v b) (record_at new v b) value ((v ≡ variable) × (stands_in b blocks ≡ true))
