use Rattle.std.proofs.Common.{◌≡◌, ◌++◌, ◌≤◌, length, reverse}
use Rattle.clif_records.specs.Waiting.{listed_to}
use Rattle.clif_records.proofs.waiting.PendingTable.list_to.Given as goal

abbrev pub invariant-loop-place : goal.invariant-loop-place
invariant-loop-place l =
    (listed_to l.self-inside.nodes.items l.fn.last ≡ listed_to l.self-inside.nodes.items l.place ++ reverse l.items.items)
    × (l.place ≤ length l.self-inside.nodes.items)

abbrev pub decreases-loop-place : goal.decreases-loop-place
decreases-loop-place l = l.place
