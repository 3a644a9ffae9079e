use Rattle.clif_safepoints.proofs.Starting.{Waits}
use Rattle.clif_safepoints.proofs.work_list.start.Given as goal

abbrev pub invariant-loop-place : goal.invariant-loop-place
invariant-loop-place l = Waits l.fn.blocks l.order l.place l.stack.items l.waits
