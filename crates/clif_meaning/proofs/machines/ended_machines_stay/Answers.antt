use Rattle.clif_meaning.proofs.Endings
use Rattle.clif_meaning.proofs.machines.ended_machines_stay.Goals as goal

pub returns : goal.returns
returns c = record { script = Endings.script_stays; function = Endings.function_stays }
