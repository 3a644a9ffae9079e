use Rattle.clif_paths.proofs.Alias.{drop_keeps}
use Rattle.clif_paths.proofs.steps.drop_keeps.Goals as goal

pub returns : goal.returns
returns c = drop_keeps
