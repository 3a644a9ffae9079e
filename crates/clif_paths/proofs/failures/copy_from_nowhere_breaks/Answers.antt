use Rattle.clif_paths.proofs.FailureProofs.{copy_from_nowhere_breaks}
use Rattle.clif_paths.proofs.failures.copy_from_nowhere_breaks.Goals as goal

pub returns : goal.returns
returns c = copy_from_nowhere_breaks
