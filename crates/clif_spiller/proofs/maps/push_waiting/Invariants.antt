use Rattle.std.proofs.Common.{◌≡◌, ◌++◌, take}
use Rattle.std.specs.Prelude.{All, Contains, filter}
use Rattle.clif_spiller.specs.Acting.{is_waiting}
use Rattle.clif_spiller.proofs.maps.push_waiting.Given as goal

abbrev pub invariant-loop-value : goal.invariant-loop-value
invariant-loop-value l =
    All (Contains l.plan.spilled) l.waiting.items
    × (l.waiting.items ≡ l.initial.waiting.items ++ filter (is_waiting l.plan l.slots) (take l.value-index l.values))
