use Rattle.clif_ssa.proofs.Counting.{block_counted}
use Rattle.clif_ssa.proofs.Writing.{block_described}
use Rattle.clif_ssa.proofs.laws.new_block_keeps.Goals as goal

pub returns : goal.returns
returns c = λ own f s blocks. (block_described own f s blocks, block_counted own f s blocks)
