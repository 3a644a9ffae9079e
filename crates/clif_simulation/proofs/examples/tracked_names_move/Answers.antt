use Rattle.clif_simulation.proofs.Rows.TrackedMoves
use Rattle.clif_simulation.proofs.Rows.TrackedRow
use Rattle.clif_simulation.proofs.examples.tracked_names_move.Goals as goal

pub returns : goal.returns
returns c = record {
  premises = TrackedRow.premises;
  carried = TrackedRow.carried;
  reads_right = TrackedRow.reads_right;
  both_move = TrackedRow.both_move;
  moves = TrackedMoves.moves;
  result_moves = TrackedMoves.result_moves;
  forgets = TrackedMoves.forgets;
  moves_more = TrackedMoves.moves_more;
  copies = TrackedMoves.copies;
  assigns = TrackedMoves.assigns;
}
