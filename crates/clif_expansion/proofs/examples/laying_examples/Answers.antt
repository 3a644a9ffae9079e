use Rattle.clif_expansion.proofs.LayingExamples
use Rattle.clif_expansion.proofs.examples.laying_examples.Goals as goal

pub returns : goal.returns
returns c = LayingExamples.examples
