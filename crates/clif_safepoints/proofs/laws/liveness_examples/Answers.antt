use Rattle.clif_safepoints.proofs.Worked.{liveness_examples}
use Rattle.clif_safepoints.proofs.laws.liveness_examples.Goals as goal

pub returns : goal.returns
returns c = liveness_examples
