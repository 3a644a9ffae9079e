use Rattle.clif_paths.proofs.BlockSteps.{dropped_keeps}
use Rattle.clif_paths.proofs.blocks.dropped_keeps.Goals as goal

pub returns : goal.returns
returns c = dropped_keeps
