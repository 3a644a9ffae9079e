use Rattle.clif_paths.proofs.LabelExamples.{loop_labelled}
use Rattle.clif_paths.proofs.examples.loop_labelled.Goals as goal

pub returns : goal.returns
returns c = loop_labelled
