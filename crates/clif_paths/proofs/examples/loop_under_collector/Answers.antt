use Rattle.clif_paths.proofs.ExampleProofs.{loop_under_collector}
use Rattle.clif_paths.proofs.examples.loop_under_collector.Goals as goal

pub returns : goal.returns
returns c = loop_under_collector
