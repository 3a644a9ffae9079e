use Rattle.clif_simulation.proofs.Loops.LoopPremises
use Rattle.clif_simulation.proofs.examples.loop_meets_premises.Goals as goal

pub returns : goal.returns
returns c = LoopPremises.loop_meets_premises
