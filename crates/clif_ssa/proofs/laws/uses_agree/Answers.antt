use Rattle.clif_ssa.proofs.Losing
use Rattle.clif_ssa.proofs.laws.uses_agree.Goals as goal

pub returns : goal.returns
returns c = Losing.uses_agree
