use Rattle.clif_region_laws.proofs.Places
use Rattle.clif_region_laws.proofs.regions_mean_nothing.Goals as goal

pub returns : goal.returns
returns c = Places.regions_mean_nothing
