use Rattle.clif_paths.proofs.LookingUp.{next_is_expected}
use Rattle.clif_paths.proofs.look_up.next_is_expected.Goals as goal

pub returns : goal.returns
returns c = next_is_expected
