use Rattle.clif_ssa.proofs.StructuredLaws.{block_structured}
use Rattle.clif_ssa.proofs.laws.new_block_structured.Goals as goal

pub returns : goal.returns
returns c = λ types own f s before. block_structured types own f s before
