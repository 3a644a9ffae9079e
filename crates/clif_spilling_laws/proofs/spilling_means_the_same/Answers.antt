use Rattle.clif_spilling_laws.proofs.Forward.Simulating.{means_the_same}
use Rattle.clif_spilling_laws.proofs.spilling_means_the_same.Goals as goal

pub returns : goal.returns
returns c = means_the_same
