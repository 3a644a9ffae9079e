use Rattle.clif_paths.proofs.Concluding.{answer_holds}
use Rattle.clif_paths.proofs.conclusion.sound_answers_hold.Goals as goal

pub returns : goal.returns
returns c = λ s sound edges allowed n. answer_holds s (sound.under edges allowed) n
