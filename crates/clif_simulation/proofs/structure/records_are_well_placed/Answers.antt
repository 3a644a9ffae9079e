use Rattle.clif_simulation.proofs.Shape.RecordsDefined.{records_well_placed}
use Rattle.clif_simulation.proofs.Whole.{whole}
use Rattle.clif_simulation.proofs.structure.records_are_well_placed.Goals as goal

pub returns : goal.returns
returns c = λ calls f s records consistent carries free placed. records_well_placed calls f s consistent (whole calls f s consistent carries free) placed records
