use Rattle.clif_expansion.proofs.Joins
use Rattle.clif_expansion.proofs.laws.asking_keeps_joins.Goals as goal

pub returns : goal.returns
returns c = Joins.asking_keeps_joins
