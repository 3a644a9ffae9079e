use Rattle.clif_paths.proofs.Executing.{function_steps}
use Rattle.clif_paths.proofs.execution.function_is_executed.Goals as goal

pub returns : goal.returns
returns c = function_steps
