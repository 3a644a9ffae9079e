use Rattle.std.proofs.Common.{◌∙◌}
use Rattle.clif_safepoints.specs.Progress.{progress_of}
use Rattle.clif_safepoints.proofs.Working.{pushed_step}
use Rattle.clif_safepoints.proofs.work_list.WorkList.push_all.Goals as goal

pub loop-block-preserved : goal.loop-block-preserved
loop-block-preserved c = (
  pushed_step (progress_of c.args.self.now) (progress_of c.loop-block.self) (progress_of c.push.new.self) c.args.blocks.now c.loop-block.block-index c.block-item.result
      c.loop-block-test.true c.block-item.is c.loop-block.invariant.0 c.in_ok-push.ensures.ok,
  c.in_ok-push.ensures.size ∙ c.loop-block.invariant.1,
)
