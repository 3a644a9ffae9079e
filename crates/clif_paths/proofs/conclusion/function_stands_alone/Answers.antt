use Rattle.clif_paths.proofs.Concluding.{stands_alone}
use Rattle.clif_paths.proofs.conclusion.function_stands_alone.Goals as goal

pub returns : goal.returns
returns c = stands_alone
