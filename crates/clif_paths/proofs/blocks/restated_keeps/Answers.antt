use Rattle.clif_paths.proofs.BlockRestating.{restated_keeps}
use Rattle.clif_paths.proofs.blocks.restated_keeps.Goals as goal

pub returns : goal.returns
returns c = restated_keeps
