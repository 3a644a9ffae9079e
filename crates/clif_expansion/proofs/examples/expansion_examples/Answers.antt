use Rattle.clif_expansion.proofs.Negation
use Rattle.clif_expansion.proofs.examples.expansion_examples.Goals as goal

pub returns : goal.returns
returns c = λ world. Negation.examples world
