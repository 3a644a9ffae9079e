use Rattle.clif_expansion.proofs.JoinedRunExamples
use Rattle.clif_expansion.proofs.examples.joined_run_examples.Goals as goal

pub returns : goal.returns
returns c = JoinedRunExamples.examples
