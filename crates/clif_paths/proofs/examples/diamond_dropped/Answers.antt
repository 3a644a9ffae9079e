use Rattle.clif_paths.proofs.ExampleProofs.{diamond_dropped}
use Rattle.clif_paths.proofs.examples.diamond_dropped.Goals as goal

pub returns : goal.returns
returns c = diamond_dropped
