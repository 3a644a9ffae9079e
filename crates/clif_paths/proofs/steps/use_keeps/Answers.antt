use Rattle.clif_paths.proofs.Naming.{use_keeps}
use Rattle.clif_paths.proofs.steps.use_keeps.Goals as goal

pub returns : goal.returns
returns c = use_keeps
