use Rattle.std.proofs.Common.{◌≡◌, ◌+◌, ◌-◌, ◌^◌, ◌≤◌, length}
use Rattle.clif_types.specs.EntitySet.{marked_from}
use Rattle.clif_types.proofs.entity_set.MembersIterator.next.Given as goal

abbrev pub invariant-loop-mark : goal.invariant-loop-mark
invariant-loop-mark g l =
    (marked_from l.self-inside.first l.self-inside.marks.now ≡ marked_from l.initial.self-inside.first l.initial.self-inside.marks.now)
    × (l.self-inside.first + length l.self-inside.marks.now ≤ 2 ^ 32 - 1)

abbrev pub decreases-loop-mark : goal.decreases-loop-mark
decreases-loop-mark g l = length l.self-inside.marks.now
