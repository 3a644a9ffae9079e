use Rattle.clif_ssa.proofs.Writing.{first_described}
use Rattle.clif_ssa.proofs.laws.first_describes.Goals as goal

pub returns : goal.returns
returns c = first_described
