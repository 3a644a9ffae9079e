use Rattle.clif_expansion.proofs.Constants
use Rattle.clif_expansion.proofs.examples.constant_examples.Goals as goal

pub returns : goal.returns
returns c = Constants.examples
