use Rattle.clif_standing_laws.proofs.Marked.ComingCarried
use Rattle.clif_standing_laws.proofs.Marked.ComingRow
use Rattle.clif_standing_laws.proofs.marked_variable_crosses_edges.Goals as goal

pub returns : goal.returns
returns c = record {
  carried = ComingCarried.carried;
  typed = ComingRow.typed;
  apart = ComingRow.apart;
  may_come = ComingRow.may_come;
  may_not = ComingRow.may_not;
  a_world = ComingRow.a_world;
  reads_right = ComingRow.reads_right;
  placed = ComingRow.placed;
  misplaced = ComingRow.misplaced;
}
