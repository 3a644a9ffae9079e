use Rattle.clif_memory_helpers.proofs.StandingForCalls.{stand_for_calls}
use Rattle.clif_memory_helpers.proofs.laws.helpers_stand_for_calls.Goals as goal

pub returns : goal.returns
returns g c = stand_for_calls
