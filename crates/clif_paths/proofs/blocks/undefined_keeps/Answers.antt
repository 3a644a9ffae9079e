use Rattle.clif_paths.proofs.BlockSteps.{undefined_keeps}
use Rattle.clif_paths.proofs.blocks.undefined_keeps.Goals as goal

pub returns : goal.returns
returns c = undefined_keeps
