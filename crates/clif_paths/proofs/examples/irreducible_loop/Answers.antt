use Rattle.clif_paths.proofs.ExampleProofs.{irreducible_loop}
use Rattle.clif_paths.proofs.examples.irreducible_loop.Goals as goal

pub returns : goal.returns
returns c = irreducible_loop
