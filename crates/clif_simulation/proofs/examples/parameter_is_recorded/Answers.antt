use Rattle.clif_simulation.proofs.Rows.RecordingRow
use Rattle.clif_simulation.proofs.examples.parameter_is_recorded.Goals as goal

pub returns : goal.returns
returns c = record {
  asked = RecordingRow.asked;
  assigned = RecordingRow.assigned;
  forgotten = RecordingRow.forgotten;
  forgotten_assigned = RecordingRow.forgotten_assigned;
  unasked = RecordingRow.unasked;
}
