use Rattle.clif_expansion.proofs.Walking
use Rattle.clif_expansion.proofs.laws.walks_go_on.Goals as goal

pub returns : goal.returns
returns c = Walking.walks_go_on
