use Rattle.clif_paths.proofs.Taking.{parameters_hold}
use Rattle.clif_paths.proofs.conclusion.parameters_hold.Goals as goal

pub returns : goal.returns
returns c = parameters_hold
