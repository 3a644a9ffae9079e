use Rattle.std.proofs.Common.{◌||◌, length, slice_index, take}
use Rattle.std.specs.List.{list_any}
use Rattle.clif_safepoints.specs.Transfer.{edge_needs}
use Rattle.clif_number_sets.specs.Sets.{IsSet, is_in}
use Rattle.clif_safepoints.specs.Sets.{in_set_of}
use Rattle.clif_safepoints.proofs.scan.add_edges.Given as goal

abbrev pub invariant-loop-edge : goal.invariant-loop-edge
invariant-loop-edge l =
    IsSet (length l.recorded)
    (λ k. list_any (λ x. edge_needs l.func (in_set_of l.live_ins k) (slice_index l.recorded k) x) (take l.edge-index l.edges) || is_in l.initial.live k) l.live
