use Rattle.clif_meaning.proofs.Simulation
use Rattle.clif_meaning.proofs.machines.keeping_up_means_the_same.Goals as goal

pub returns : goal.returns
returns c = Simulation.same_meaning
