use Rattle.clif_paths.proofs.LabelExamples.{agreeing_moves}
use Rattle.clif_paths.proofs.examples.agreeing_moves_keep_labels.Goals as goal

pub returns : goal.returns
returns c = agreeing_moves
