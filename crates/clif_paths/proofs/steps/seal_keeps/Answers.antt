use Rattle.clif_paths.proofs.Sealing.{seal_keeps}
use Rattle.clif_paths.proofs.steps.seal_keeps.Goals as goal

pub returns : goal.returns
returns c = seal_keeps
