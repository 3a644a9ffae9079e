use Rattle.std.proofs.Common.{length, slice_index, sym}
use Rattle.clif_safepoints.specs.Transfer.{argument_passes}
use Rattle.clif_safepoints.proofs.Marks.{add_end, add_start, add_step}
use Rattle.clif_safepoints.proofs.scan.add_arguments.Goals as goal

pub loop-arg-init : goal.loop-arg-init
loop-arg-init c = add_start (length c.args.recorded.now) (λ k x. argument_passes c.args.func.now (slice_index c.args.recorded.now k) x) c.args.live.now c.requires.size

pub loop-arg-preserved : goal.loop-arg-preserved
loop-arg-preserved c =
    add_step (length c.args.recorded.now) (λ k x. argument_passes c.args.func.now (slice_index c.args.recorded.now k) x) c.args.args.now c.loop-arg.arg-index
    c.arg-item.result c.args.live.now c.loop-arg.live c.add_argument.new.live c.loop-arg-test.true (sym c.arg-item.is) c.loop-arg.invariant c.add_argument.ensures

pub returns : goal.returns
returns c =
    add_end (length c.args.recorded.now) (λ k x. argument_passes c.args.func.now (slice_index c.args.recorded.now k) x) c.args.args.now c.loop-arg.arg-index
    c.args.live.now c.loop-arg.live c.loop-arg-test.false c.loop-arg.invariant
