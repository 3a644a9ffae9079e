use Rattle.clif_simulation.proofs.Tracking.Agreeing
use Rattle.clif_simulation.proofs.meaning.carrying_means_the_same_tracked.Goals as goal

pub returns : goal.returns
returns c = Agreeing.means_tracked
