use Rattle.clif_meaning.proofs.WorkedExamples
use Rattle.clif_meaning.proofs.examples.eight_is_not_seven.Goals as goal

pub returns : goal.returns
returns c = WorkedExamples.eight_is_not_seven
