use Rattle.clif_spilling_laws.proofs.Functions.Matching.{edges_stay_matched}
use Rattle.clif_spilling_laws.proofs.edges_stay_matched.Goals as goal

pub returns : goal.returns
returns c = edges_stay_matched
