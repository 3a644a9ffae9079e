use Rattle.clif_paths.proofs.FailureProofs.{drop_breaks}
use Rattle.clif_paths.proofs.failures.drop_breaks.Goals as goal

pub returns : goal.returns
returns c = drop_breaks
