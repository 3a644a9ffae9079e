use Rattle.clif_paths.proofs.Labelling.{function_keeps}
use Rattle.clif_paths.proofs.labels.function_keeps_labels.Goals as goal

pub returns : goal.returns
returns c = function_keeps
