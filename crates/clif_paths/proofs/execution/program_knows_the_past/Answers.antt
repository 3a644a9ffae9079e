use Rattle.clif_paths.proofs.Remembering.{program_knows}
use Rattle.clif_paths.proofs.execution.program_knows_the_past.Goals as goal

pub returns : goal.returns
returns c = program_knows
