use Rattle.clif_simulation.proofs.Rows.HalfRow
use Rattle.clif_simulation.proofs.examples.half_built_reads_right.Goals as goal

pub returns : goal.returns
returns c = record {
  starts = HalfRow.starts;
  reads_right = HalfRow.reads_right;
  other_constant = HalfRow.other_constant;
  other_record = HalfRow.other_record;
  none_waiting = HalfRow.none_waiting;
}
