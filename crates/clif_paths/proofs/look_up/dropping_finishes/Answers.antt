use Rattle.clif_paths.proofs.LookingUp.{dropping_finishes}
use Rattle.clif_paths.proofs.look_up.dropping_finishes.Goals as goal

pub returns : goal.returns
returns c = dropping_finishes
