use Rattle.clif_simulation.proofs.Shape.Defined.{well_placed_coming}
use Rattle.clif_simulation.proofs.Whole.{whole}
use Rattle.clif_standing_laws.proofs.standing_is_well_placed_coming.Goals as goal

pub returns : goal.returns
returns c = λ declared calls f context position coming consistent stands free may.
    well_placed_coming coming calls f context.ssa consistent (whole calls f context.ssa consistent stands.carries free) may
