use Rattle.clif_paths.proofs.FailureProofs.{copy_breaks}
use Rattle.clif_paths.proofs.failures.copy_breaks.Goals as goal

pub returns : goal.returns
returns c = copy_breaks
