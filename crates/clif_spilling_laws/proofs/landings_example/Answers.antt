use Rattle.clif_spilling_laws.proofs.Examples.Landings.{landings_example}
use Rattle.clif_spilling_laws.proofs.landings_example.Goals as goal

pub returns : goal.returns
returns c = landings_example
