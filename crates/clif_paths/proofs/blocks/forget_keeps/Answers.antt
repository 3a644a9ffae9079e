use Rattle.clif_paths.proofs.BlockRestating.{forget_keeps}
use Rattle.clif_paths.proofs.blocks.forget_keeps.Goals as goal

pub returns : goal.returns
returns c = forget_keeps
