use Rattle.clif_simulation.proofs.Rows.EarlyJump
use Rattle.clif_simulation.proofs.Rows.HalfRowAlong
use Rattle.clif_simulation.proofs.Loops.LoopAlong
use Rattle.clif_simulation.proofs.Loops.LoopConsistent
use Rattle.clif_simulation.proofs.Loops.LoopPassing
use Rattle.clif_simulation.proofs.Loops.LoopRow
use Rattle.clif_simulation.proofs.Loops.LoopWaiting
use Rattle.clif_simulation.proofs.Unfinished.OpenReading
use Rattle.clif_meaning.specs.BranchExamples.{both_arms_signature}
use Rattle.clif_simulation.specs.Reading.{may_grow}
use Rattle.clif_simulation.specs.CarryingExamples.{loop_calls, loop_body, loop_state}
use Rattle.clif_simulation.proofs.examples.interrupted_reads_right.Goals as goal

pub returns : goal.returns
returns c = record {
  reads_right = HalfRowAlong.reads_right;
  other_constant = HalfRowAlong.other_constant;
  other_record = HalfRowAlong.other_record;
  none_waiting = HalfRowAlong.none_waiting;
  loop_reads_right =
      OpenReading.reads_right loop_calls both_arms_signature loop_body loop_state (may_grow loop_calls) LoopConsistent.row_consistent LoopRow.row_carried LoopAlong.none_grows;
  loop_other_record = LoopAlong.other_record;
  waiting_loop_reads_right = LoopWaiting.reads_right;
  waiting_loop_none_waiting = LoopWaiting.none_waiting;
  passing_loop_reads_right = LoopPassing.reads_right;
  passing_loop_other_argument = LoopPassing.other_argument;
  early_jump_premises = EarlyJump.premises;
  early_jump_settled = EarlyJump.settled;
  early_jump_reads_right = EarlyJump.reads_right;
}
