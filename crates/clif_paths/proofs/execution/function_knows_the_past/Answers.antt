use Rattle.clif_paths.proofs.Remembering.{function_knows}
use Rattle.clif_paths.proofs.execution.function_knows_the_past.Goals as goal

pub returns : goal.returns
returns c = function_knows
