use Rattle.clif_switch_calls.proofs.Sized
use Rattle.clif_switch_calls.proofs.laws.switch_calls_are_few.Goals as goal

pub returns : goal.returns
returns c = Sized.switch_calls_are_few
