use Rattle.clif_expansion.proofs.ReadConditions
use Rattle.clif_expansion.proofs.laws.conditions_are_read.Goals as goal

pub returns : goal.returns
returns c = ReadConditions.conditions_are_read
