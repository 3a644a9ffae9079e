use Rattle.clif_paths.proofs.ExampleProofs.{loop_sealed_late}
use Rattle.clif_paths.proofs.examples.loop_sealed_late.Goals as goal

pub returns : goal.returns
returns c = loop_sealed_late
