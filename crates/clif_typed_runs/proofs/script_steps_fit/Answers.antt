use Rattle.clif_typed_runs.proofs.ScriptSteps
use Rattle.clif_typed_runs.proofs.script_steps_fit.Goals as goal

pub returns : goal.returns
returns c = ScriptSteps.steps_fit
