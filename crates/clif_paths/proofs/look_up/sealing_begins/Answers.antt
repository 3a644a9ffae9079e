use Rattle.clif_paths.proofs.LookingUp.{sealing_begins}
use Rattle.clif_paths.proofs.look_up.sealing_begins.Goals as goal

pub returns : goal.returns
returns c = sealing_begins
