use Rattle.clif_paths.proofs.BlockSteps.{parameter_keeps}
use Rattle.clif_paths.proofs.blocks.parameter_keeps.Goals as goal

pub returns : goal.returns
returns c = parameter_keeps
