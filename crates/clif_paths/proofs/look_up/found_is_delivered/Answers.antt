use Rattle.clif_paths.proofs.LookingUp.{found_is_delivered}
use Rattle.clif_paths.proofs.look_up.found_is_delivered.Goals as goal

pub returns : goal.returns
returns c = found_is_delivered
