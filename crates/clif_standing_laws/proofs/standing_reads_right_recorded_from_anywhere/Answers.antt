use Rattle.clif_standing_laws.proofs.Marked.RecordedReading
use Rattle.clif_standing_laws.proofs.standing_reads_right_recorded_from_anywhere.Goals as goal

pub returns : goal.returns
returns c = λ declared calls f context position consistent stands nothing.
    RecordedReading.from_anywhere calls declared f context.ssa consistent stands.carries stands.ledger.tracks.marks nothing
