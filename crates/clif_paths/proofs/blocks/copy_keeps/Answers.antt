use Rattle.clif_paths.proofs.BlockSteps.{copy_keeps}
use Rattle.clif_paths.proofs.blocks.copy_keeps.Goals as goal

pub returns : goal.returns
returns c = copy_keeps
