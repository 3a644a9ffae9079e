use Rattle.clif_region_laws.proofs.Bodies
use Rattle.clif_region_laws.proofs.alike_functions_mean_the_same.Goals as goal

pub returns : goal.returns
returns c = Bodies.alike_functions_mean_the_same
