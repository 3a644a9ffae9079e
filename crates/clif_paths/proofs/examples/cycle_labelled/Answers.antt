use Rattle.clif_paths.proofs.LabelExamples.{cycle_labelled}
use Rattle.clif_paths.proofs.examples.cycle_labelled.Goals as goal

pub returns : goal.returns
returns c = cycle_labelled
