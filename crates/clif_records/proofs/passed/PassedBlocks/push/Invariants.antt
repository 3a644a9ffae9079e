use Rattle.std.proofs.Common.{◌≡◌, ◌+◌, length}
use Rattle.clif_records.specs.Passed.{KnowsPlaces}
use Rattle.clif_records.proofs.passed.PassedBlocks.push.Given as goal

abbrev pub invariant-loop : goal.invariant-loop
invariant-loop l =
    (length l.self-inside.places.items ≡ length l.initial.self-inside.places.items + l.counter)
    × (l.self-inside.blocks.items ≡ l.initial.self-inside.blocks.items)
    × KnowsPlaces l.self-inside.places.items l.self-inside.blocks.items
