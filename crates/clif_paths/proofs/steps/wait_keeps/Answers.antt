use Rattle.clif_paths.proofs.Born.{wait_keeps}
use Rattle.clif_paths.proofs.steps.wait_keeps.Goals as goal

pub returns : goal.returns
returns c = wait_keeps
