use Rattle.clif_paths.proofs.ShapeSteps.{structure_kept}
use Rattle.clif_paths.proofs.structure.structure_kept.Goals as goal

pub returns : goal.returns
returns c = structure_kept
