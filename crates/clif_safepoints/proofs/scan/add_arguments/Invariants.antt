use Rattle.std.proofs.Common.{◌||◌, length, slice_index, take}
use Rattle.std.specs.List.{list_any}
use Rattle.clif_safepoints.specs.Transfer.{argument_passes}
use Rattle.clif_number_sets.specs.Sets.{IsSet, is_in}
use Rattle.clif_safepoints.proofs.scan.add_arguments.Given as goal

abbrev pub invariant-loop-arg : goal.invariant-loop-arg
invariant-loop-arg l =
    IsSet (length l.recorded)
    (λ k. list_any (λ x. argument_passes l.func (slice_index l.recorded k) x) (take l.arg-index l.args) || is_in l.initial.live k) l.live
