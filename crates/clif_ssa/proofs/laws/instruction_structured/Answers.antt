use Rattle.clif_ssa.proofs.Bodies.{firm_from}
use Rattle.clif_ssa.proofs.StructuredLaws.{instruction_structured}
use Rattle.clif_ssa.proofs.laws.instruction_structured.Goals as goal

pub returns : goal.returns
returns c = λ types own f s b shape results loc known there before.
    instruction_structured types own f s b shape results loc (firm_from f known) there before
