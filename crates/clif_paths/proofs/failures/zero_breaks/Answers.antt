use Rattle.clif_paths.proofs.FailureProofs.{zero_breaks}
use Rattle.clif_paths.proofs.failures.zero_breaks.Goals as goal

pub returns : goal.returns
returns c = zero_breaks
