use Rattle.std.proofs.Common.{◌≡◌, ◌≢◌, ◌<◌, ℕ, take}
use Rattle.std.specs.Prelude.{slice_index}
use Rattle.clif_instructions.specs.Members.{stands_in}
use Rattle.clif_records.specs.Tables.{lookups_at}
use Rattle.clif_records.specs.Records.{RecordsIn}
use Rattle.clif_records_tests.proofs.plain.PlainTable.set_each.Given as goal

abbrev pub invariant-loop-block : goal.invariant-loop-block
invariant-loop-block l =
    RecordsIn l.initial.self l.self l.variable l.value (λ b. stands_in b (take l.block-index l.blocks))
    × ((v b : ℕ) → lookups_at l.self v b ≡ lookups_at l.initial.self v b)
    × ((k : ℕ) → k < l.block-index → slice_index l.blocks k ≢ l.from)
