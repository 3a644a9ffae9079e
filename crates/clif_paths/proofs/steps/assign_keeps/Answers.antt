use Rattle.clif_paths.proofs.Assigning.{assign_keeps}
use Rattle.clif_paths.proofs.steps.assign_keeps.Goals as goal

pub returns : goal.returns
returns c = assign_keeps
