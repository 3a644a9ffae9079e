use Rattle.clif_expansion.proofs.ScriptCalls
use Rattle.clif_expansion.proofs.examples.script_call_examples.Goals as goal

pub returns : goal.returns
returns c = ScriptCalls.examples
