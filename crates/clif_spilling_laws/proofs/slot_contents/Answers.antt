use Rattle.clif_spilling_laws.proofs.Forward.Simulating.{slot_contents}
use Rattle.clif_spilling_laws.proofs.slot_contents.Goals as goal

pub returns : goal.returns
returns c = slot_contents
