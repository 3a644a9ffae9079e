use Rattle.std.proofs.Common.{take}
use Rattle.clif_spiller.proofs.StackMaps.{MapsFirst}
use Rattle.clif_spiller.proofs.maps.set_map.Given as goal

abbrev pub invariant-loop-value : goal.invariant-loop-value
invariant-loop-value l = MapsFirst l.plan l.initial.func l.initial.slots (take l.value-index l.value-items) l.func l.slots l.entries.items
