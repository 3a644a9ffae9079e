use Rattle.clif_expansion.proofs.Same
use Rattle.clif_expansion.proofs.laws.expanding_means_the_same.Goals as goal

pub returns : goal.returns
returns c = Same.expanding_means_the_same
