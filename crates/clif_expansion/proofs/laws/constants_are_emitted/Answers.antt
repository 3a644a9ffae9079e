use Rattle.clif_expansion.proofs.ConstantCalls
use Rattle.clif_expansion.proofs.laws.constants_are_emitted.Goals as goal

pub returns : goal.returns
returns c = ConstantCalls.constants_are_emitted
