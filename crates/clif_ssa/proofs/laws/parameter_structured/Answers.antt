use Rattle.clif_ssa.proofs.Bodies.{firm_from}
use Rattle.clif_ssa.proofs.StructuredLaws.{parameter_structured}
use Rattle.clif_ssa.proofs.laws.parameter_structured.Goals as goal

pub returns : goal.returns
returns c = λ types own f s b ty known there bare before. parameter_structured types own f s b ty (firm_from f known) there bare before
