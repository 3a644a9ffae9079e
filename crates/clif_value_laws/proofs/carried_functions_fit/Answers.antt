use Rattle.clif_value_laws.proofs.CarriedFunctions
use Rattle.clif_value_laws.proofs.carried_functions_fit.Goals as goal

pub returns : goal.returns
returns c = CarriedFunctions.carried_fit
