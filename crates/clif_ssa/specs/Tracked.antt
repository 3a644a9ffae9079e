-- Which values stack maps need after uses and sealings.
-- Source: the crate's documentation of `declare_var_needs_stack_map`; the exact statement is own.
use Rattle.std.specs.Prelude.{◌≡◌, ◌≤◌, ◌⊎◌, ◌↔◌, ℕ, IsTrue, Some, false}
use Rattle.clif_types.specs.EntitySet.{has}
use Rattle.clif_records.specs.Tracking.{marked_of, recorded_of}
use Rattle.clif_ssa.specs.Ssa.{SsaState, record_of}

-- The value is a parameter that was made for a marked variable: it is on record for that, and there were fewer values before.
pub record IsMadeForMarked (count : ℕ) (s t : SsaState) (v : ℕ) : Type 0 where
  pub variable : ℕ
  pub marked : IsTrue (has (marked_of s.tracking) variable)
  pub is_new : count ≤ v
  pub block : ℕ
  pub on_record : record_of t variable block ≡ Some v

-- From one state, of a function with so many values, to the next: no mark changes, and exactly the parameters that were made for
-- marked variables are recorded beside what was. So no zero is. Where nothing is marked nothing changes.
pub record TracksMade (count : ℕ) (s t : SsaState) : Type 0 where
  pub marks : marked_of t.tracking ≡ marked_of s.tracking
  pub recorded : (v : ℕ) → IsTrue (has (recorded_of t.tracking) v) ↔ (IsTrue (has (recorded_of s.tracking) v) ⊎ IsMadeForMarked count s t v)
  pub unmarked : ((x : ℕ) → has (marked_of s.tracking) x ≡ false) → t.tracking ≡ s.tracking
