use Rattle.std.proofs.Common.{◌≡◌, ◌≢◌, ◌<◌, ◌≤◌, ◌-◌, ℕ, length, take}
use Rattle.std.specs.Prelude.{slice_index}
use Rattle.clif_instructions.specs.Members.{stands_in}
use Rattle.clif_records.specs.Tables.{lookups_at}
use Rattle.clif_records.specs.Records.{RecordsIn}
use Rattle.clif_records.proofs.tables.VariableTable.set_each.Given as goal

abbrev pub invariant-loop-done : goal.invariant-loop-done
invariant-loop-done l =
    RecordsIn l.initial.self l.self l.variable l.value (λ b. stands_in b (take l.done l.blocks))
    × ((v b : ℕ) → lookups_at l.self v b ≡ lookups_at l.initial.self v b)
    × ((k : ℕ) → k < l.done → slice_index l.blocks k ≢ l.from)
    × (l.done ≤ length l.blocks)

abbrev pub decreases-loop-done : goal.decreases-loop-done
decreases-loop-done l = length l.blocks - l.done
