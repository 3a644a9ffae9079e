use Rattle.std.proofs.Common.{◌≡◌, ◌≢◌, ◌<◌, ◌≤◌, ℕ}
use Rattle.std.specs.Prelude.{slice_index}
use Rattle.clif_records.specs.Pages.{PutsRun, page_number}
use Rattle.clif_records.proofs.runs.put_run.Given as goal

abbrev pub invariant-loop-block : goal.invariant-loop-block
invariant-loop-block l =
    PutsRun l.blocks l.value l.initial.page l.page l.run.added l.run.blocks
    × (l.run.blocks ≡ l.block-index)
    × ((k : ℕ) → k < l.run.blocks → page_number (slice_index l.blocks k) ≡ l.number)
    × ((k : ℕ) → k < l.run.blocks → slice_index l.blocks k ≢ l.from)
    × (l.run.added ≤ l.run.blocks)
