use Rattle.clif_expansion.proofs.PerformedConstants
use Rattle.clif_expansion.proofs.laws.constant_calls_are_performed.Goals as goal

pub returns : goal.returns
returns c = PerformedConstants.constant_calls_are_performed
