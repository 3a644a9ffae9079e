use Rattle.clif_simulation.proofs.Tracking.Unrecorded
use Rattle.clif_simulation.proofs.meaning.carrying_means_the_same_unrecorded.Goals as goal

pub returns : goal.returns
returns c = Unrecorded.means_unrecorded
