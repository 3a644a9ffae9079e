use Rattle.clif_spilling_laws.proofs.Examples.TryCall.{examples}
use Rattle.clif_spilling_laws.proofs.spilling_examples.Goals as goal

pub returns : goal.returns
returns c = examples
