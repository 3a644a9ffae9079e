use Rattle.clif_helper_calls.proofs.Called
use Rattle.clif_helper_calls.proofs.calls_are_performed.Goals as goal

pub returns : goal.returns
returns c = Called.calls_are_performed
