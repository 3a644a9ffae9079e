use Rattle.clif_typed_runs.proofs.FunctionSteps
use Rattle.clif_typed_runs.proofs.function_runs_fit.Goals as goal

pub returns : goal.returns
returns c = FunctionSteps.runs_fit
