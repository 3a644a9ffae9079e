use Rattle.std.proofs.Common.{refl}
use Rattle.clif_standing_laws.proofs.Moved.MovedPremises
use Rattle.clif_standing_laws.proofs.Moved.MovedRow
use Rattle.clif_standing_laws.proofs.Moved.MovedRuns
use Rattle.clif_standing_laws.proofs.Moved.MovedStands
use Rattle.clif_standing_laws.proofs.marked_parameter_moves.Goals as goal

pub returns : goal.returns
returns c = record {
  accepted = refl;
  consistent = MovedRow.consistent;
  carried = MovedRow.carried;
  finished = MovedRow.finished;
  stands = MovedStands.stands;
  marks = MovedRow.marks;
  premises = MovedPremises.premises;
  apart = MovedPremises.apart;
  a_world = MovedRuns.a_world;
  means_the_same = MovedRuns.means_the_same;
  forgets = MovedRuns.forgets;
  unrecorded = MovedRow.unrecorded;
  exactly = MovedRow.exactly;
  no_less = MovedRow.no_less;
  no_more = MovedRow.no_more;
}
