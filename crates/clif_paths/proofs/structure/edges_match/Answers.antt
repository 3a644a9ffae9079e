use Rattle.clif_paths.proofs.ShapeSteps.{edges_match}
use Rattle.clif_paths.proofs.structure.edges_match.Goals as goal

pub returns : goal.returns
returns c = edges_match
