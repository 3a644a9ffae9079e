use Rattle.clif_spilling_laws.proofs.Examples.Loop.{loop_example}
use Rattle.clif_spilling_laws.proofs.loop_example.Goals as goal

pub returns : goal.returns
returns c = loop_example
