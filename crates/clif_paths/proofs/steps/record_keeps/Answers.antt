use Rattle.clif_paths.proofs.Recording.{record_keeps}
use Rattle.clif_paths.proofs.steps.record_keeps.Goals as goal

pub returns : goal.returns
returns c = record_keeps
