use Rattle.clif_paths.proofs.BlockSteps.{born_keeps}
use Rattle.clif_paths.proofs.blocks.born_keeps.Goals as goal

pub returns : goal.returns
returns c = born_keeps
