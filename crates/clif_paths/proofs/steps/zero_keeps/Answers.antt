use Rattle.clif_paths.proofs.Born.{zero_keeps}
use Rattle.clif_paths.proofs.steps.zero_keeps.Goals as goal

pub returns : goal.returns
returns c = zero_keeps
