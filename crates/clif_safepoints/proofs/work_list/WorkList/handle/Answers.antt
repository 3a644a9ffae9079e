use Rattle.std.proofs.Common.{List, Bool, length, subst, slice_index}
use Rattle.clif_safepoints.specs.Progress.{progress_of}
use Rattle.clif_number_sets.specs.Sets.{IsSet}
use Rattle.clif_safepoints.specs.Sets.{in_set_of}
use Rattle.clif_safepoints.specs.Transfer.{is_live_in}
use Rattle.clif_safepoints.proofs.Working.{handled_same}
use Rattle.clif_safepoints.proofs.work_list.WorkList.handle.Goals as goal

pub returns-else-branch-clause-ok : goal.returns-else-branch-clause-ok
returns-else-branch-clause-ok c =
    let P : List (List Bool) → Type 0 = λ sets. IsSet (length c.args.recorded.now) (λ k. is_live_in c.args.func.now (in_set_of sets k) c.args.block (slice_index c.args.recorded.now k)) c.scan_block.new.live in
    handled_same c.args.func.now c.args.recorded.now c.args.sources.now c.args.block c.index.result (length c.args.func.now.blocks) c.saturating_add-self.result (progress_of c.args.self.now)
    c.index_mut.result.now c.scan_block.new.live c.add_all.new.self c.requires.sets c.requires.exists c.index.ensures.place c.index_mut.ensures.value
    (subst P c.as_slice.ensures.value c.scan_block.ensures) c.in_ok-add_all.ensures.union c.saturating_add-self.ensures (c.in_ok-add_all.ensures.kept c.if-branch.false)
