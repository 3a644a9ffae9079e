use Rattle.clif_outcome_laws.proofs.Local
use Rattle.clif_outcome_laws.proofs.outcomes_are_local.Goals as goal

pub returns : goal.returns
returns c = Local.outcomes_are_local
