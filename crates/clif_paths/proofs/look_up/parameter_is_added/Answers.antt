use Rattle.clif_paths.proofs.LookingUp.{parameter_is_added}
use Rattle.clif_paths.proofs.look_up.parameter_is_added.Goals as goal

pub returns : goal.returns
returns c = parameter_is_added
