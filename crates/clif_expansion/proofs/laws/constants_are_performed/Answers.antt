use Rattle.clif_expansion.proofs.Constants
use Rattle.clif_expansion.proofs.laws.constants_are_performed.Goals as goal

pub returns : goal.returns
returns c = Constants.constants_are_performed
