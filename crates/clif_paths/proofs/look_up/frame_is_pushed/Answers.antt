use Rattle.clif_paths.proofs.LookingUp.{frame_is_pushed}
use Rattle.clif_paths.proofs.look_up.frame_is_pushed.Goals as goal

pub returns : goal.returns
returns c = frame_is_pushed
