use Rattle.clif_simulation.proofs.Shape.CarriedStructure.{no_parameters}
use Rattle.clif_simulation.proofs.structure.carrying_leaves_no_parameters.Goals as goal

pub returns : goal.returns
returns c = no_parameters
