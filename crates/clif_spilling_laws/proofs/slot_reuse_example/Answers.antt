use Rattle.clif_spilling_laws.proofs.Examples.SlotReuse.{slot_reuse_example}
use Rattle.clif_spilling_laws.proofs.slot_reuse_example.Goals as goal

pub returns : goal.returns
returns c = slot_reuse_example
