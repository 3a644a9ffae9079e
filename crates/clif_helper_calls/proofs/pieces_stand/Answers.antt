use Rattle.clif_helper_calls.proofs.PieceStanding
use Rattle.clif_helper_calls.proofs.pieces_stand.Goals as goal

pub returns : goal.returns
returns c = PieceStanding.pieces_stand
