use Rattle.clif_replay.proofs.NamingExamples
use Rattle.clif_replay.proofs.examples.naming_examples.Goals as goal

pub returns : goal.returns
returns c = NamingExamples.examples
