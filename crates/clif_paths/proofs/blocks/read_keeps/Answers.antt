use Rattle.clif_paths.proofs.BlockSteps.{read_keeps}
use Rattle.clif_paths.proofs.blocks.read_keeps.Goals as goal

pub returns : goal.returns
returns c = read_keeps
