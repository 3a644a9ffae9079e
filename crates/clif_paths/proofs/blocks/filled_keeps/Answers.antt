use Rattle.clif_paths.proofs.BlockSteps.{filled_keeps}
use Rattle.clif_paths.proofs.blocks.filled_keeps.Goals as goal

pub returns : goal.returns
returns c = filled_keeps
