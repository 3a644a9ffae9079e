use Rattle.clif_ssa.proofs.WithinUses.{waiting_held}
use Rattle.clif_ssa.proofs.laws.waiting_held.Goals as goal

pub returns : goal.returns
returns c = λ types own f s holds b known before held. waiting_held types own f s holds b known before held
