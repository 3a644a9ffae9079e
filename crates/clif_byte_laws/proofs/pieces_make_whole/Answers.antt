use Rattle.clif_byte_laws.proofs.Whole
use Rattle.clif_byte_laws.proofs.pieces_make_whole.Goals as goal

pub returns : goal.returns
returns c = Whole.pieces_make_whole
