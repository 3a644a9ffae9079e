use Rattle.clif_paths.proofs.LookingUp.{zero_finishes}
use Rattle.clif_paths.proofs.look_up.zero_finishes.Goals as goal

pub returns : goal.returns
returns c = zero_finishes
