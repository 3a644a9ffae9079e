use Rattle.clif_byte_laws.proofs.Within
use Rattle.clif_byte_laws.proofs.pieces_lie_within.Goals as goal

pub returns : goal.returns
returns c = Within.pieces_lie_within
