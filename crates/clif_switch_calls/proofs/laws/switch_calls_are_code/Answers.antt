use Rattle.clif_switch_calls.proofs.Law
use Rattle.clif_switch_calls.proofs.laws.switch_calls_are_code.Goals as goal

pub returns : goal.returns
returns c = Law.switch_calls_are_code
