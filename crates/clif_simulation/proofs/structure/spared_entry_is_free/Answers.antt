use Rattle.clif_simulation.proofs.FreeEntry.{free_spared}
use Rattle.clif_simulation.proofs.structure.spared_entry_is_free.Goals as goal

pub returns : goal.returns
returns c = λ calls f s carries spares. free_spared calls carries.own f s carries.holds spares
