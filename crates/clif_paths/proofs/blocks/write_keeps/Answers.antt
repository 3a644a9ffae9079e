use Rattle.clif_paths.proofs.BlockSteps.{write_keeps}
use Rattle.clif_paths.proofs.blocks.write_keeps.Goals as goal

pub returns : goal.returns
returns c = write_keeps
