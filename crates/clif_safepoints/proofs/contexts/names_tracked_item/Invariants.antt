use Rattle.std.proofs.Common.{◌≡◌, false, take}
use Rattle.std.specs.List.{list_any}
use Rattle.clif_safepoints.specs.Contexts.{item_is_tracked}
use Rattle.clif_safepoints.proofs.contexts.names_tracked_item.Given as goal

abbrev pub invariant-loop-place : goal.invariant-loop-place
invariant-loop-place l = list_any (item_is_tracked l.func l.recorded) (take l.place l.items) ≡ false
