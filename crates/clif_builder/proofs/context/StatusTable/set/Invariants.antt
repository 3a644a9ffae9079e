use Rattle.std.proofs.Common.{◌≡◌, ◌+◌, ℕ, length}
use Rattle.std.specs.Prelude.{slice_index_or}
use Rattle.clif_builder.specs.declared.context.BlockStatus.TheVariants.{Empty}
use Rattle.clif_builder.proofs.context.StatusTable.set.Given as goal

abbrev pub invariant-loop : goal.invariant-loop
invariant-loop l =
    (length l.self-inside.statuses.items ≡ length l.initial.self-inside.statuses.items + l.counter)
    × ((b : ℕ) → slice_index_or l.self-inside.statuses.items b Empty ≡ slice_index_or l.initial.self-inside.statuses.items b Empty)
