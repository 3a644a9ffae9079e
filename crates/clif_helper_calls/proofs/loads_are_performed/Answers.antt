use Rattle.clif_helper_calls.proofs.Loads
use Rattle.clif_helper_calls.proofs.loads_are_performed.Goals as goal

pub returns : goal.returns
returns c = Loads.loads_are_performed
