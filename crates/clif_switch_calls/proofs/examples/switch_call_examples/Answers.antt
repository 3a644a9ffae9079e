use Rattle.clif_switch_calls.proofs.SwitchCallExamples
use Rattle.clif_switch_calls.proofs.examples.switch_call_examples.Goals as goal

pub returns : goal.returns
returns c = SwitchCallExamples.switch_call_examples
