use Rattle.clif_paths.proofs.LookingUp.{results_are_counted}
use Rattle.clif_paths.proofs.look_up.results_are_counted.Goals as goal

pub returns : goal.returns
returns c = results_are_counted
