use Rattle.clif_paths.proofs.Fill.{fill_keeps}
use Rattle.clif_paths.proofs.steps.fill_keeps.Goals as goal

pub returns : goal.returns
returns c = fill_keeps
