use Rattle.clif_simulation.proofs.Finished.Assembly
use Rattle.clif_simulation.proofs.meaning.carrying_means_the_same_moving.Goals as goal

pub returns : goal.returns
returns c = Assembly.means_moving
