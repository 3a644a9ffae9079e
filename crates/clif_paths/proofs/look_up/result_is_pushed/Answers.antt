use Rattle.clif_paths.proofs.LookingUp.{result_is_pushed}
use Rattle.clif_paths.proofs.look_up.result_is_pushed.Goals as goal

pub returns : goal.returns
returns c = result_is_pushed
