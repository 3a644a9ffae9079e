use Rattle.clif_ssa.proofs.StructuredLaws.{inserted_structured}
use Rattle.clif_ssa.proofs.laws.insertion_structured.Goals as goal

pub returns : goal.returns
returns c = λ types own f s b before. inserted_structured types own f s b before
