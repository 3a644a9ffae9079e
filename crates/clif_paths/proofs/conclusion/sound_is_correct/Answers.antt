use Rattle.clif_paths.proofs.Concluding.{correct}
use Rattle.clif_paths.proofs.conclusion.sound_is_correct.Goals as goal

pub returns : goal.returns
returns c = correct
