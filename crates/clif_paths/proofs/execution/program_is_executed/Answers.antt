use Rattle.clif_paths.proofs.Executing.{program_steps}
use Rattle.clif_paths.proofs.execution.program_is_executed.Goals as goal

pub returns : goal.returns
returns c = program_steps
