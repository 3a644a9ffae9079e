use Rattle.clif_paths.proofs.ShapeSteps.{first_structured}
use Rattle.clif_paths.proofs.structure.first_shape_structured.Goals as goal

pub returns : goal.returns
returns c = first_structured
