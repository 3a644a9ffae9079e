use Rattle.std.proofs.Common.{◌≡◌, ◌<◌, ◌||◌, Bool, List, [], sym, subst, length, slice_index, slice_index_or}
use Rattle.std.specs.List.{list_any}
use Rattle.clif_instructions.specs.declared.block_call.BlockArg.{BlockArg}
use Rattle.clif_number_sets.specs.Sets.{IsSet, is_in}
use Rattle.clif_safepoints.specs.Sets.{in_set_of}
use Rattle.clif_safepoints.specs.Transfer.{argument_passes}
use Rattle.clif_safepoints.proofs.Marks.{added_twice}
use Rattle.clif_safepoints.proofs.Rows.{row_at}
use Rattle.clif_safepoints.proofs.scan.add_edge.Goals as goal

pub returns : goal.returns
returns c =
    let inside : c.args.edge.now.block < length c.args.live_ins.now = subst (λ n. c.args.edge.now.block < n) (sym c.requires.sets.count) c.requires.exists.0 in
    let row : c.index-live_ins-index.result ≡ slice_index_or c.args.live_ins.now c.args.edge.now.block [] =
    row_at c.args.live_ins.now c.index.result c.args.edge.now.block c.index-live_ins-index.result [] c.index-live_ins-index.is c.index.ensures.place inside in
    let P : List Bool → Type 0 = λ row. IsSet (length c.add_arguments.new.live) (λ k. is_in row k || is_in c.add_arguments.new.live k) c.add_all.new.self in
    let Q : List BlockArg → Type 0 = λ args.
    IsSet (length c.args.recorded.now) (λ k. list_any (argument_passes c.args.func.now (slice_index c.args.recorded.now k)) args || is_in c.args.live.now k) c.add_arguments.new.live in
    added_twice (length c.args.recorded.now) (λ k. in_set_of c.args.live_ins.now k c.args.edge.now.block)
    (λ k. list_any (argument_passes c.args.func.now (slice_index c.args.recorded.now k)) c.args.edge.now.args) c.args.live.now c.add_arguments.new.live c.add_all.new.self
    (subst Q c.as_slice.ensures c.add_arguments.ensures) (subst P row c.add_all.ensures)
