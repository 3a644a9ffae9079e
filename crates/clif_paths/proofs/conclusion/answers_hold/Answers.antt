use Rattle.clif_paths.proofs.Concluding.{reached_sound, answer_holds}
use Rattle.clif_paths.proofs.conclusion.answers_hold.Goals as goal

pub returns : goal.returns
returns c = λ s steps edges allowed n. answer_holds s ((reached_sound steps).under edges allowed) n
