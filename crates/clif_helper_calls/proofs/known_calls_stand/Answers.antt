use Rattle.clif_helper_calls.proofs.KnownStanding
use Rattle.clif_helper_calls.proofs.known_calls_stand.Goals as goal

pub returns : goal.returns
returns c = KnownStanding.known_calls_stand
