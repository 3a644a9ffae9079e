use Rattle.clif_unassigned_laws.proofs.Machines.{reads_zero}
use Rattle.clif_unassigned_laws.proofs.Staying.{stays_zero}
use Rattle.clif_unassigned_laws.proofs.unassigned_reads_zero.Goals as goal

pub returns : goal.returns
returns c = record { reads_zero = reads_zero; stays_zero = stays_zero }
