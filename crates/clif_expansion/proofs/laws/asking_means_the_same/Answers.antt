use Rattle.clif_expansion.proofs.calls.Alone
use Rattle.clif_expansion.proofs.laws.asking_means_the_same.Goals as goal

pub returns : goal.returns
returns c = Alone.asking_means
