use Rattle.clif_paths.proofs.Restating.{restate_keeps}
use Rattle.clif_paths.proofs.steps.restate_keeps.Goals as goal

pub returns : goal.returns
returns c = restate_keeps
