use Rattle.clif_simulation.proofs.Shape.Defined.{well_placed}
use Rattle.clif_simulation.proofs.Whole.{whole}
use Rattle.clif_simulation.proofs.structure.carrying_is_well_placed.Goals as goal

pub returns : goal.returns
returns c = λ calls f s consistent carries free placed. well_placed calls f s consistent (whole calls f s consistent carries free) placed
