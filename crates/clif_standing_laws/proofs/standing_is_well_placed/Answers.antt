use Rattle.clif_simulation.proofs.Shape.Defined.{well_placed}
use Rattle.clif_simulation.proofs.Whole.{whole}
use Rattle.clif_standing_laws.proofs.standing_is_well_placed.Goals as goal

pub returns : goal.returns
returns c = λ declared calls f context position consistent stands free placed.
    well_placed calls f context.ssa consistent (whole calls f context.ssa consistent stands.carries free) placed
