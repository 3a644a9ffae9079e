use Rattle.clif_simulation.proofs.Rows.SecondRow
use Rattle.clif_simulation.proofs.examples.coming_reads_right.Goals as goal

pub returns : goal.returns
returns c = record {
  carried = SecondRow.carried;
  may_come = SecondRow.may_come;
  comes = SecondRow.comes;
  reads_right = SecondRow.reads_right;
  other_constant = SecondRow.other_constant;
}
