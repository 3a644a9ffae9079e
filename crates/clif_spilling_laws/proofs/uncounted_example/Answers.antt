use Rattle.clif_spilling_laws.proofs.Examples.Uncounted.{uncounted_example}
use Rattle.clif_spilling_laws.proofs.uncounted_example.Goals as goal

pub returns : goal.returns
returns c = uncounted_example
