use Rattle.clif_standing_laws.proofs.Marked.MarkedReading
use Rattle.clif_standing_laws.proofs.standing_reads_right_marked_from_anywhere.Goals as goal

pub returns : goal.returns
returns c = λ declared calls f context position consistent stands nothing.
    MarkedReading.from_anywhere calls declared f context.ssa consistent stands.carries nothing
