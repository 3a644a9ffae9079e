use Rattle.clif_typed_runs.proofs.ScriptSteps
use Rattle.clif_typed_runs.proofs.script_runs_fit.Goals as goal

pub returns : goal.returns
returns c = ScriptSteps.runs_fit
