use Rattle.clif_expansion.proofs.SwitchExamples
use Rattle.clif_expansion.proofs.examples.switch_examples.Goals as goal

pub returns : goal.returns
returns c = SwitchExamples.examples
