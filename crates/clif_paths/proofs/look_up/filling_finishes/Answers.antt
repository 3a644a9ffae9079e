use Rattle.clif_paths.proofs.LookingUp.{filling_finishes}
use Rattle.clif_paths.proofs.look_up.filling_finishes.Goals as goal

pub returns : goal.returns
returns c = filling_finishes
