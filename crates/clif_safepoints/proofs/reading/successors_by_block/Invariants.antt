use Rattle.clif_safepoints.specs.Tables.{AreRows}
use Rattle.clif_safepoints.specs.Transfer.{successors_of}
use Rattle.clif_safepoints.proofs.reading.successors_by_block.Given as goal

abbrev pub invariant-loop-row : goal.invariant-loop-row
invariant-loop-row l = AreRows l.row-index (successors_of l.func) l.table.items
