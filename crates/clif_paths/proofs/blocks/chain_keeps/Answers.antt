use Rattle.clif_paths.proofs.BlockSteps.{chain_keeps}
use Rattle.clif_paths.proofs.blocks.chain_keeps.Goals as goal

pub returns : goal.returns
returns c = chain_keeps
