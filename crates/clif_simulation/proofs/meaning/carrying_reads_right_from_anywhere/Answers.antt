use Rattle.clif_simulation.proofs.Unfinished.RightReading
use Rattle.clif_simulation.proofs.Unfilled.{plainly}
use Rattle.clif_simulation.proofs.meaning.carrying_reads_right_from_anywhere.Goals as goal

pub returns : goal.returns
returns c = λ calls signature f s consistent carries nothing width world tracked collector fits premises moves.
    RightReading.runs calls signature f s consistent (plainly calls f s consistent carries nothing) width world tracked collector fits premises moves
