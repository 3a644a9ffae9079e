use Rattle.std.proofs.Common.{◌≡◌, ◌+◌, ℕ, length}
use Rattle.clif_records.specs.Waiting.{row_at, waiting_rows}
use Rattle.clif_records.proofs.tables.BlockTable.declare.Given as goal

abbrev pub invariant-loop : goal.invariant-loop
invariant-loop l =
    (length l.self-inside.rows.items ≡ length l.initial.self-inside.rows.items + l.counter)
    × ((b : ℕ) → row_at l.self-inside.rows.items b ≡ row_at l.initial.self-inside.rows.items b)
    × (waiting_rows l.self-inside.rows.items ≡ waiting_rows l.initial.self-inside.rows.items)
    × (l.self-inside.pending ≡ l.initial.self-inside.pending)
    × (l.self-inside.waiting ≡ l.initial.self-inside.waiting)
