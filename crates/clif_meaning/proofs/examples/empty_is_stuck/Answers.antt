use Rattle.clif_meaning.proofs.WorkedExamples
use Rattle.clif_meaning.proofs.examples.empty_is_stuck.Goals as goal

pub returns : goal.returns
returns c = record {
  script = WorkedExamples.empty_script_is_stuck;
  function = WorkedExamples.empty_function_is_stuck;
  not_first = WorkedExamples.stuck_is_not_seven;
}
