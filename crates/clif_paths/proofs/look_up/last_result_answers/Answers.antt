use Rattle.clif_paths.proofs.LookingUp.{last_result_answers}
use Rattle.clif_paths.proofs.look_up.last_result_answers.Goals as goal

pub returns : goal.returns
returns c = last_result_answers
