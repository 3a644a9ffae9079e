use Rattle.clif_check.proofs.Law.{agrees}
use Rattle.clif_check.proofs.laws.agrees_with_premise.Goals as goal

pub returns : goal.returns
returns c = agrees
