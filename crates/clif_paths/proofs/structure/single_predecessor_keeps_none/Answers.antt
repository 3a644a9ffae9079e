use Rattle.clif_paths.proofs.ShapeSteps.{single_predecessor}
use Rattle.clif_paths.proofs.structure.single_predecessor_keeps_none.Goals as goal

pub returns : goal.returns
returns c = single_predecessor
