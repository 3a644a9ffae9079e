use Rattle.clif_ssa.proofs.StructuredLaws.{first_structured}
use Rattle.clif_ssa.proofs.laws.first_structured.Goals as goal

pub returns : goal.returns
returns c = λ types name signature. first_structured types name signature
