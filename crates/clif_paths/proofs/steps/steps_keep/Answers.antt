use Rattle.clif_paths.proofs.Concluding.{steps_keep}
use Rattle.clif_paths.proofs.steps.steps_keep.Goals as goal

pub returns : goal.returns
returns c = λ s s' steps. steps_keep steps
