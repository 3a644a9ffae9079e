use Rattle.clif_helper_calls.proofs.Performed
use Rattle.clif_helper_calls.proofs.pieces_are_performed.Goals as goal

pub returns : goal.returns
returns c = Performed.pieces_are_performed
