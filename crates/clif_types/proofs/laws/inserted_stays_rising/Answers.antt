use Rattle.clif_types.proofs.RisingSets.{inserted_stays_rising}
use Rattle.clif_types.proofs.laws.inserted_stays_rising.Goals as goal

pub returns : goal.returns
returns c = inserted_stays_rising
