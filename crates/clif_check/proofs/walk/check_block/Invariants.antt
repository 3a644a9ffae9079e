use Rattle.clif_check.specs.WellTyped.{IsWellTyped, insts_of}
use Rattle.clif_check.proofs.Walks.{Walked, left}
use Rattle.clif_check.proofs.walk.check_block.Given as goal

abbrev pub invariant-loop-next : goal.invariant-loop-next
invariant-loop-next l = Walked (IsWellTyped l.func) (insts_of l.func l.fn.block) l.next

abbrev pub decreases-loop-next : goal.decreases-loop-next
decreases-loop-next l = left (insts_of l.func l.fn.block) l.next
