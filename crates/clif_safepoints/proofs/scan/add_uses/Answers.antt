use Rattle.std.proofs.Common.{◌==◌, length, slice_index, sym}
use Rattle.clif_ir.specs.Body.{resolved}
use Rattle.clif_safepoints.proofs.Marks.{add_end, add_start, add_step}
use Rattle.clif_safepoints.proofs.scan.add_uses.Goals as goal

pub loop-value-init : goal.loop-value-init
loop-value-init c =
    add_start (length c.args.recorded.now) (λ k x. resolved c.args.func.now x == slice_index c.args.recorded.now k) c.args.live.now c.requires.size

pub loop-value-preserved : goal.loop-value-preserved
loop-value-preserved c =
    add_step (length c.args.recorded.now) (λ k x. resolved c.args.func.now x == slice_index c.args.recorded.now k) c.args.values.now c.loop-value.value-index
    c.value-item.result c.args.live.now c.loop-value.live c.add_use.new.live c.loop-value-test.true (sym c.value-item.is) c.loop-value.invariant c.add_use.ensures

pub returns : goal.returns
returns c =
    add_end (length c.args.recorded.now) (λ k x. resolved c.args.func.now x == slice_index c.args.recorded.now k) c.args.values.now c.loop-value.value-index
    c.args.live.now c.loop-value.live c.loop-value-test.false c.loop-value.invariant
