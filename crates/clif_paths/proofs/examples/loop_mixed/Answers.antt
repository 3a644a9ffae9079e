use Rattle.clif_paths.proofs.LabelExamples.{loop_mixed}
use Rattle.clif_paths.proofs.examples.loop_mixed.Goals as goal

pub returns : goal.returns
returns c = loop_mixed
