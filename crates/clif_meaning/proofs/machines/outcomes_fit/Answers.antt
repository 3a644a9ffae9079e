use Rattle.clif_meaning.proofs.Fitting
use Rattle.clif_meaning.proofs.machines.outcomes_fit.Goals as goal

pub returns : goal.returns
returns c = Fitting.outcomes_fit
