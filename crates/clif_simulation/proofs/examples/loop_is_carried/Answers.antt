use Rattle.std.proofs.Common.{refl}
use Rattle.clif_simulation.proofs.Loops.LoopArgument
use Rattle.clif_simulation.proofs.Loops.LoopConsistent
use Rattle.clif_simulation.proofs.Loops.LoopRow
use Rattle.clif_simulation.proofs.Loops.LoopWrong
use Rattle.clif_simulation.proofs.examples.loop_is_carried.Goals as goal

pub returns : goal.returns
returns c = record {
  script = refl;
  view = LoopRow.seen_alike;
  consistent = LoopConsistent.row_consistent;
  carried = LoopRow.row_carried;
  finished = LoopRow.row_finished;
  other_argument = LoopArgument.refuted;
  other_constant = LoopWrong.other_constant;
  swapped_arms = LoopWrong.swapped_arms;
  one_argument = LoopWrong.one_argument;
  unsealed = LoopWrong.unsealed;
}
