use Rattle.clif_ssa.proofs.Locally.{seals_locally}
use Rattle.clif_ssa.proofs.laws.sealing_keeps.Goals as goal

pub returns : goal.returns
returns c = seals_locally
