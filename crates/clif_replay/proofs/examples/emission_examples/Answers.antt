use Rattle.clif_replay.proofs.EmissionExamples
use Rattle.clif_replay.proofs.examples.emission_examples.Goals as goal

pub returns : goal.returns
returns c = EmissionExamples.examples
