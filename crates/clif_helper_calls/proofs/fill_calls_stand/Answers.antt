use Rattle.clif_helper_calls.proofs.FillStanding
use Rattle.clif_helper_calls.proofs.fill_calls_stand.Goals as goal

pub returns : goal.returns
returns c = FillStanding.fill_calls_stand
