use Rattle.clif_paths.proofs.Concluding.{reached_sound, correct}
use Rattle.clif_paths.proofs.conclusion.construction_is_correct.Goals as goal

pub returns : goal.returns
returns c = λ s steps. correct s (reached_sound steps)
