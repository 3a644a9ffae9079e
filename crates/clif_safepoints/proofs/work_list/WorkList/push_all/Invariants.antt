use Rattle.std.proofs.Common.{◌≡◌, length, take}
use Rattle.clif_safepoints.specs.Progress.{progress_of, pushed_all}
use Rattle.clif_safepoints.proofs.work_list.WorkList.push_all.Given as goal

abbrev pub invariant-loop-block : goal.invariant-loop-block
invariant-loop-block l =
    (progress_of l.self ≡ pushed_all (progress_of l.initial.self) (take l.block-index l.blocks)) × (length l.self.waits ≡ length l.initial.self.waits)
