use Rattle.clif_paths.proofs.Labelling.{program_keeps}
use Rattle.clif_paths.proofs.labels.program_keeps_labels.Goals as goal

pub returns : goal.returns
returns c = program_keeps
