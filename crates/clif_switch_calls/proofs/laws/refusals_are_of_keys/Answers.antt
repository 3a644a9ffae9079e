use Rattle.clif_switch_calls.proofs.Refused
use Rattle.clif_switch_calls.proofs.laws.refusals_are_of_keys.Goals as goal

pub returns : goal.returns
returns c = Refused.refusals_are_of_keys
