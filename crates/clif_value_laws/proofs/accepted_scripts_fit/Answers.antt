use Rattle.clif_meaning.specs.Headline.{script_run}
use Rattle.clif_value_laws.proofs.AcceptedScripts
use Rattle.clif_typed_runs.proofs.ScriptSteps
use Rattle.clif_value_laws.proofs.accepted_scripts_fit.Goals as goal

pub returns : goal.returns
returns c script signature function world accepted typed arguments =
    ScriptSteps.runs_fit (script_run script function world) signature (AcceptedScripts.runs_typed script signature function world accepted typed arguments)
