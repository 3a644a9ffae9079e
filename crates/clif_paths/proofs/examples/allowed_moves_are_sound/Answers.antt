use Rattle.clif_paths.proofs.Moving.{allowed_moves}
use Rattle.clif_paths.proofs.examples.allowed_moves_are_sound.Goals as goal

pub returns : goal.returns
returns c = λ moves e. (allowed_moves moves e).tables
