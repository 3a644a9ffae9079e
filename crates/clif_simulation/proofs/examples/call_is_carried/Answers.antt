use Rattle.clif_simulation.proofs.Rows.CallRow
use Rattle.clif_simulation.proofs.examples.call_is_carried.Goals as goal

pub returns : goal.returns
returns c = record { carried = CallRow.carried; other_type = CallRow.other_type }
