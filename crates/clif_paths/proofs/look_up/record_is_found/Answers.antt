use Rattle.clif_paths.proofs.LookingUp.{record_is_found}
use Rattle.clif_paths.proofs.look_up.record_is_found.Goals as goal

pub returns : goal.returns
returns c = record_is_found
