use Rattle.clif_switch.proofs.StandingForCalls.{stand_for_calls}
use Rattle.clif_switch.proofs.laws.switches_stand_for_calls.Goals as goal

pub returns : goal.returns
returns g c = stand_for_calls
