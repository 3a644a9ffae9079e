use Rattle.clif_paths.proofs.BlockSteps.{seal_block_keeps}
use Rattle.clif_paths.proofs.blocks.block_seal_keeps.Goals as goal

pub returns : goal.returns
returns c = seal_block_keeps
