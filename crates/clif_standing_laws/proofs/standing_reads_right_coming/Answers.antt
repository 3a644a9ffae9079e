use Rattle.clif_simulation.specs.Reading.{may_grow}
use Rattle.clif_simulation.proofs.Unfinished.OpenReading
use Rattle.clif_standing_laws.proofs.StandingOpen.{are_open}
use Rattle.clif_standing_laws.proofs.standing_reads_right_coming.Goals as goal

pub returns : goal.returns
returns c = λ declared calls f context position consistent stands.
    OpenReading.reads_right_coming calls declared f context.ssa (may_grow calls) consistent stands.carries (are_open declared calls f context position stands)
