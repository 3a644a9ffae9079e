use Rattle.clif_outcome_laws.proofs.Widths
use Rattle.clif_outcome_laws.proofs.halves_are_parts.Goals as goal

pub returns : goal.returns
returns c = Widths.halves_are_parts
