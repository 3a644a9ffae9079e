use Rattle.std.proofs.Common.{◌≡◌, length}
use Rattle.clif_safepoints.specs.Progress.{progress_of}
use Rattle.clif_safepoints.proofs.Settling.{IsProgress, to_do}
use Rattle.clif_safepoints.proofs.work_list.live_ins.Given as goal

abbrev pub invariant-loop-block : goal.invariant-loop-block
invariant-loop-block l = IsProgress l.func l.recorded l.order l.successors (progress_of l.work) × (length l.live ≡ length l.recorded)

abbrev pub decreases-loop-block : goal.decreases-loop-block
decreases-loop-block l = to_do l.recorded l.order l.successors (progress_of l.work)
