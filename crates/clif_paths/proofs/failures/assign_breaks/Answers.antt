use Rattle.clif_paths.proofs.FailureProofs.{assign_breaks}
use Rattle.clif_paths.proofs.failures.assign_breaks.Goals as goal

pub returns : goal.returns
returns c = assign_breaks
