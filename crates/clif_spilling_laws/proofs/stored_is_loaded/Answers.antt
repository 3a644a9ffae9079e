use Rattle.clif_spilling_laws.specs.Accesses.{stored}
use Rattle.clif_spilling_laws.proofs.Memory.Slots.{stored_is_there, there_is_loaded}
use Rattle.clif_spilling_laws.proofs.stored_is_loaded.Goals as goal

pub returns : goal.returns
returns c = λ s world memory v bits places has fits.
    there_is_loaded s world places v has (stored s world memory v bits) bits fits (stored_is_there s world places v has memory bits)
