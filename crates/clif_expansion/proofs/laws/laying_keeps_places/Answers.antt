use Rattle.clif_expansion.proofs.LaidPaths
use Rattle.clif_expansion.proofs.laws.laying_keeps_places.Goals as goal

pub returns : goal.returns
returns c = LaidPaths.laying_keeps_places
