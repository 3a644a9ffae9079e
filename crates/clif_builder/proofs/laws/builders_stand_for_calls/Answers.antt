use Rattle.clif_builder.proofs.StandingForCalls.{builders_stand}
use Rattle.clif_builder.proofs.laws.builders_stand_for_calls.Goals as goal

pub returns : goal.returns
returns g c = builders_stand
