use Rattle.std.proofs.Common.{◌&&◌, not, ◌==◌, length, slice_index, take}
use Rattle.std.specs.List.{list_any}
use Rattle.clif_number_sets.specs.Sets.{IsSet, is_in}
use Rattle.clif_safepoints.proofs.scan.remove_defs.Given as goal

abbrev pub invariant-loop-value : goal.invariant-loop-value
invariant-loop-value l =
    IsSet (length l.recorded)
    (λ k. not (list_any (λ x. x == slice_index l.recorded k) (take l.value-index l.values)) && is_in l.initial.live k) l.live
