use Rattle.clif_paths.proofs.ShapeSteps.{first_structured, shapes_structured}
use Rattle.clif_paths.proofs.structure.shapes_are_structured.Goals as goal

pub returns : goal.returns
returns c = λ types shape steps. shapes_structured types _ shape steps (first_structured types)
