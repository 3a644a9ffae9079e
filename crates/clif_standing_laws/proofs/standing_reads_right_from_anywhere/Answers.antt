use Rattle.clif_simulation.proofs.Unfilled.{plainly}
use Rattle.clif_simulation.proofs.Unfinished.RightReading
use Rattle.clif_standing_laws.proofs.standing_reads_right_from_anywhere.Goals as goal

pub returns : goal.returns
returns c = λ declared calls f context position consistent stands nothing width world tracked collector fits premises moves.
    RightReading.runs calls declared f context.ssa consistent (plainly calls f context.ssa consistent stands.carries nothing) width world tracked collector fits premises moves
