use Rattle.clif_expansion.proofs.Deciding
use Rattle.clif_expansion.proofs.examples.walk_examples.Goals as goal

pub returns : goal.returns
returns c = λ world. Deciding.examples world
