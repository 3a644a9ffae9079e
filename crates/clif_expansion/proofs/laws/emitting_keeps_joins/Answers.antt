use Rattle.clif_expansion.proofs.Emissions
use Rattle.clif_expansion.proofs.laws.emitting_keeps_joins.Goals as goal

pub returns : goal.returns
returns c = Emissions.emitting_keeps_joins
