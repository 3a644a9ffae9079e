use Rattle.clif_ssa.proofs.Bodies.{firm_from}
use Rattle.clif_ssa.proofs.Housing.{housed_from}
use Rattle.clif_ssa.proofs.Locally.{zeroes_locally}
use Rattle.clif_ssa.proofs.laws.zero_use_keeps.Goals as goal

pub returns : goal.returns
returns c = λ own f g s t blocks x ty b known both alone there none sealed zeroes same.
    zeroes_locally own f g s t blocks x ty b (firm_from f known) (housed_from f known) both.0 both.2 both.1 alone there none sealed zeroes same
