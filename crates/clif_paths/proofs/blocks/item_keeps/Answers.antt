use Rattle.clif_paths.proofs.BlockSteps.{item_keeps}
use Rattle.clif_paths.proofs.blocks.item_keeps.Goals as goal

pub returns : goal.returns
returns c = item_keeps
