use Rattle.clif_finished_laws.proofs.Sparing.{carrying_spares}
use Rattle.clif_finished_laws.proofs.carrying_spares.Goals as goal

pub returns : goal.returns
returns c = carrying_spares
