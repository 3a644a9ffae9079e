use Rattle.clif_paths.proofs.Finishing.{finished_moves}
use Rattle.clif_paths.proofs.examples.finished_moves_are_correct.Goals as goal

pub returns : goal.returns
returns c = finished_moves
