use Rattle.clif_paths.proofs.BlockSteps.{zero_in_keeps}
use Rattle.clif_paths.proofs.blocks.zero_in_keeps.Goals as goal

pub returns : goal.returns
returns c = zero_in_keeps
