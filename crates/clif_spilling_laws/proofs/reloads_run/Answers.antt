use Rattle.clif_spilling_laws.proofs.Memory.Accesses.{reload_runs}
use Rattle.clif_spilling_laws.proofs.reloads_run.Goals as goal

pub returns : goal.returns
returns c = λ s world x rest values memory events pointers places is has.
    reload_runs s world pointers places x rest values memory events has is.address
