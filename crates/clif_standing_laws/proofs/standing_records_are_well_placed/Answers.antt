use Rattle.clif_simulation.proofs.Shape.RecordsDefined.{records_well_placed}
use Rattle.clif_simulation.proofs.Whole.{whole}
use Rattle.clif_standing_laws.proofs.standing_records_are_well_placed.Goals as goal

pub returns : goal.returns
returns c = λ declared calls f context position records consistent stands free placed.
    records_well_placed calls f context.ssa consistent (whole calls f context.ssa consistent stands.carries free) placed records
