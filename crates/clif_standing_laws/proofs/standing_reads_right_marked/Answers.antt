use Rattle.clif_simulation.specs.Reading.{may_grow}
use Rattle.clif_standing_laws.proofs.Marked.MarkedReading
use Rattle.clif_standing_laws.proofs.StandingOpen.{are_open}
use Rattle.clif_standing_laws.proofs.standing_reads_right_marked.Goals as goal

pub returns : goal.returns
returns c = λ declared calls f context position consistent stands.
    MarkedReading.reads_right calls declared f context.ssa (may_grow calls) consistent stands.carries (are_open declared calls f context position stands)
