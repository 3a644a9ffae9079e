use Rattle.clif_value_laws.proofs.CheckedFunctions
use Rattle.clif_value_laws.proofs.checked_functions_fit.Goals as goal

pub returns : goal.returns
returns c = CheckedFunctions.checked_fit
