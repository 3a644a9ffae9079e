use Rattle.clif_meaning.proofs.LoopPaths
use Rattle.clif_meaning.proofs.examples.path_examples.Goals as goal

pub returns : goal.returns
returns c = record { unplaced = LoopPaths.unplaced; reached = LoopPaths.reached; entry_before = LoopPaths.entry_before; way_round = LoopPaths.way_round }
