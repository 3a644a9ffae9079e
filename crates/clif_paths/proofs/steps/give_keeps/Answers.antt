use Rattle.clif_paths.proofs.Naming.{give_keeps}
use Rattle.clif_paths.proofs.steps.give_keeps.Goals as goal

pub returns : goal.returns
returns c = give_keeps
