use Rattle.std.proofs.Common.{◌==◌, length, slice_index, sym}
use Rattle.clif_safepoints.proofs.Marks.{drop_end, drop_start, drop_step}
use Rattle.clif_safepoints.proofs.scan.remove_defs.Goals as goal

pub loop-value-init : goal.loop-value-init
loop-value-init c = drop_start (length c.args.recorded.now) (λ k x. x == slice_index c.args.recorded.now k) c.args.live.now c.requires.size

pub loop-value-preserved : goal.loop-value-preserved
loop-value-preserved c =
    drop_step (length c.args.recorded.now) (λ k x. x == slice_index c.args.recorded.now k) c.args.values.now c.loop-value.value-index
    c.value-item.result c.args.live.now c.loop-value.live c.remove_def.new.live c.loop-value-test.true (sym c.value-item.is) c.loop-value.invariant c.remove_def.ensures

pub returns : goal.returns
returns c =
    drop_end (length c.args.recorded.now) (λ k x. x == slice_index c.args.recorded.now k) c.args.values.now c.loop-value.value-index
    c.args.live.now c.loop-value.live c.loop-value-test.false c.loop-value.invariant
