use Rattle.clif_standing_laws.proofs.Marked.MarkedRow
use Rattle.clif_standing_laws.proofs.Moved.MovedRow
use Rattle.clif_standing_laws.proofs.marked_variable_reads_right.Goals as goal

pub returns : goal.returns
returns c = record {
  carried = MovedRow.used;
  premises = MarkedRow.premises;
  apart = MarkedRow.apart;
  a_world = MarkedRow.a_world;
  reads_right = MarkedRow.reads_right;
  forgets = MarkedRow.forgets;
  not_alike = MarkedRow.not_alike;
}
