use Rattle.std.proofs.Common.{◌-◌, length}
use Rattle.clif_ir.specs.Body.{block_at}
use Rattle.clif_safepoints.proofs.Rows.{Walking}
use Rattle.clif_spiller.proofs.blocks.push_insts.Given as goal

abbrev pub invariant-loop-next : goal.invariant-loop-next
invariant-loop-next l = Walking (block_at l.func l.fn.block).insts l.insts.items l.next

abbrev pub decreases-loop-next : goal.decreases-loop-next
decreases-loop-next l = length (block_at l.func l.fn.block).insts - length l.insts.items
