use Rattle.clif_helper_calls.proofs.Known
use Rattle.clif_helper_calls.proofs.known_calls_are_performed.Goals as goal

pub returns : goal.returns
returns c = Known.known_calls_are_performed
