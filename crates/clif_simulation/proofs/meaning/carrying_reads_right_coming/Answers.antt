use Rattle.clif_simulation.proofs.Unfinished.OpenReading
use Rattle.clif_simulation.proofs.meaning.carrying_reads_right_coming.Goals as goal

pub returns : goal.returns
returns c = OpenReading.reads_right_coming
