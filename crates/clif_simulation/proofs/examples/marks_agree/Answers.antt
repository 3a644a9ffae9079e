use Rattle.clif_simulation.proofs.Loops.LoopMarked
use Rattle.clif_simulation.proofs.Loops.LoopRow
use Rattle.clif_simulation.proofs.examples.marks_agree.Goals as goal

pub returns : goal.returns
returns c = record {
  carried = LoopRow.row_carried;
  premises = LoopMarked.premises;
  names = LoopMarked.names;
  values = LoopMarked.values;
  forgets = LoopMarked.forgets;
  moves_more = LoopMarked.moves_more;
  untracked = LoopMarked.untracked;
  unmarked = LoopMarked.unmarked;
  both_move = LoopMarked.both_move;
}
