use Rattle.clif_expansion.proofs.JoinedRuns
use Rattle.clif_expansion.proofs.laws.joined_calls_mean_the_same.Goals as goal

pub returns : goal.returns
returns c = JoinedRuns.joined_mean
