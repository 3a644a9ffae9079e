use Rattle.clif_helper_calls.proofs.CodeExamples
use Rattle.clif_helper_calls.proofs.code_examples.Goals as goal

pub returns : goal.returns
returns c = CodeExamples.code_examples
