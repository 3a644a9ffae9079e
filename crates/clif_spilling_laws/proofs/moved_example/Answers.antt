use Rattle.clif_spilling_laws.proofs.Examples.Moved.{moved_example}
use Rattle.clif_spilling_laws.proofs.moved_example.Goals as goal

pub returns : goal.returns
returns c = moved_example
