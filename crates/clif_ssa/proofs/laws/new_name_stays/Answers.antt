use Rattle.clif_ssa.proofs.Completing.{new_name_same}
use Rattle.clif_ssa.proofs.laws.new_name_stays.Goals as goal

pub returns : goal.returns
returns c = new_name_same
