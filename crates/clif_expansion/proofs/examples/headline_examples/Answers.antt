use Rattle.clif_expansion.proofs.calls.HeadlineExamples
use Rattle.clif_expansion.proofs.examples.headline_examples.Goals as goal

pub returns : goal.returns
returns c = HeadlineExamples.examples
