use Rattle.clif_paths.proofs.BlockRestating.{roles_extend}
use Rattle.clif_paths.proofs.blocks.roles_extend.Goals as goal

pub returns : goal.returns
returns c = roles_extend
