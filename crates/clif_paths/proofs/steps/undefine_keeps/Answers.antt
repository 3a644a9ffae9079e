use Rattle.clif_paths.proofs.Alias.{undefine_keeps}
use Rattle.clif_paths.proofs.steps.undefine_keeps.Goals as goal

pub returns : goal.returns
returns c = undefine_keeps
