use Rattle.clif_paths.proofs.BlockSteps.{first_sound}
use Rattle.clif_paths.proofs.blocks.first_blocks_sound.Goals as goal

pub returns : goal.returns
returns c = first_sound
