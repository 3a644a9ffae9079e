use Rattle.clif_expansion.proofs.Same
use Rattle.clif_expansion.proofs.laws.expanding_keeps_premises.Goals as goal

pub returns : goal.returns
returns c = Same.expanding_keeps_premises
