use Rattle.clif_simulation.proofs.Shape.CarriedStructure.{matching_edges}
use Rattle.clif_simulation.proofs.structure.carrying_matches_edges.Goals as goal

pub returns : goal.returns
returns c = matching_edges
