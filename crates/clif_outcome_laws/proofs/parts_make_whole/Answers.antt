use Rattle.clif_outcome_laws.proofs.Widths
use Rattle.clif_outcome_laws.proofs.parts_make_whole.Goals as goal

pub returns : goal.returns
returns c = Widths.parts_make_whole
