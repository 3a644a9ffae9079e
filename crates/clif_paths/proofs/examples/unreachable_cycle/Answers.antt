use Rattle.clif_paths.proofs.ExampleProofs.{unreachable_cycle}
use Rattle.clif_paths.proofs.examples.unreachable_cycle.Goals as goal

pub returns : goal.returns
returns c = unreachable_cycle
