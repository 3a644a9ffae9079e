use Rattle.clif_expansion.proofs.Values
use Rattle.clif_expansion.proofs.laws.values_are_taken.Goals as goal

pub returns : goal.returns
returns c = Values.values_are_taken
