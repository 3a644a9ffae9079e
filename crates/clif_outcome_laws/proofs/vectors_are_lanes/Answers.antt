use Rattle.clif_outcome_laws.proofs.VectorLanes
use Rattle.clif_outcome_laws.proofs.vectors_are_lanes.Goals as goal

pub returns : goal.returns
returns c = VectorLanes.vectors_are_lanes
