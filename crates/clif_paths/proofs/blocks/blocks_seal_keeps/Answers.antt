use Rattle.clif_paths.proofs.BlockSteps.{seal_blocks_keeps}
use Rattle.clif_paths.proofs.blocks.blocks_seal_keeps.Goals as goal

pub returns : goal.returns
returns c = seal_blocks_keeps
