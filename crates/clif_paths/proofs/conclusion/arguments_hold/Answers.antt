use Rattle.clif_paths.proofs.Taking.{arguments_hold}
use Rattle.clif_paths.proofs.conclusion.arguments_hold.Goals as goal

pub returns : goal.returns
returns c = arguments_hold
