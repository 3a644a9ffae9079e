use Rattle.clif_constant_calls.proofs.StandingForCalls.{stand_for_calls}
use Rattle.clif_constant_calls.proofs.laws.constants_stand_for_calls.Goals as goal

pub returns : goal.returns
returns g c = stand_for_calls c.constant_operands_stand.ensures
