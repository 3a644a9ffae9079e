-- What is on record in the states of the worked examples.
use Rattle.std.proofs.Common.{◌≡◌, ℕ, List, [], ◌∷◌, Option, Some, None}
use Rattle.clif_records.specs.declared.tables.Pending.{Pending}
use Rattle.clif_records.specs.declared.tables.Recorded.{Recorded}
use Rattle.clif_ssa.specs.Ssa.{record_of}
use Rattle.clif_records.proofs.RecordMaps.{value_among, record_at-entries, record_at-empty}
use Rattle.clif_simulation.specs.CarryingExamples.{recorded_in, loop_state}
use Rattle.clif_simulation.specs.ReadingExamples.{half_state_with}
use Rattle.clif_simulation.specs.InterruptedExamples.{loop_state_recording, waiting_loop_state, passing_loop_state, early_jump_state}

pub nothing_there : {A : Type 0} {X : Type 0} {x : X} → ◌≡◌ {A = Option X} None (Some x) → A
nothing_there is = cc

abbrev pub loop_entries : ℕ → List ((ℕ × ℕ) × Recorded)
loop_entries value = recorded_in 0 0 0 ∷ recorded_in 1 1 1 ∷ recorded_in 2 value 0 ∷ recorded_in 3 1 0 ∷ []

pub loop_record : (x b : ℕ) → record_of loop_state x b ≡ value_among (loop_entries 3) x b
loop_record = record_at-entries (loop_entries 3)

pub loop_recording_record : (value x b : ℕ) → record_of (loop_state_recording value) x b ≡ value_among (loop_entries value) x b
loop_recording_record value = record_at-entries (loop_entries value)

pub half_record : (value : ℕ) (waiting : List Pending) (x b : ℕ) → record_of (half_state_with value waiting) x b ≡ value_among (recorded_in 0 value 0 ∷ []) x b
half_record value waiting = record_at-entries (recorded_in 0 value 0 ∷ [])

pub waiting_record : (waiting : List Pending) (x b : ℕ) → record_of (waiting_loop_state waiting) x b ≡ value_among (recorded_in 1 0 0 ∷ []) x b
waiting_record waiting = record_at-entries (recorded_in 1 0 0 ∷ [])

pub passing_record : (x b : ℕ) → record_of passing_loop_state x b ≡ value_among (recorded_in 1 2 0 ∷ []) x b
passing_record = record_at-entries (recorded_in 1 2 0 ∷ [])

pub early_record : (x b : ℕ) → record_of early_jump_state x b ≡ None
early_record = record_at-empty
