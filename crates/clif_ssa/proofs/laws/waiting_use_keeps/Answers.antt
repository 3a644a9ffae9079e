use Rattle.clif_ssa.proofs.Bodies.{firm_from}
use Rattle.clif_ssa.proofs.Locally.{waits_locally}
use Rattle.clif_ssa.proofs.laws.waiting_use_keeps.Goals as goal

pub returns : goal.returns
returns c = λ own f g s t blocks x ty b known both there none unsealed waits same.
    waits_locally own f g s t blocks x ty b (firm_from f known) both.0 both.2 both.1 there none unsealed waits same
