use Rattle.clif_check.proofs.Errors.{IsBlockRight}
use Rattle.clif_check.proofs.Walks.{Walked, left}
use Rattle.clif_check.proofs.walk.check.Given as goal

abbrev pub invariant-loop-next : goal.invariant-loop-next
invariant-loop-next l = Walked (IsBlockRight l.func) l.func.layout l.next

abbrev pub decreases-loop-next : goal.decreases-loop-next
decreases-loop-next l = left l.func.layout l.next
