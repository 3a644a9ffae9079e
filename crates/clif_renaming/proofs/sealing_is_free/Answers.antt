use Rattle.clif_renaming.proofs.Sealing
use Rattle.clif_renaming.proofs.sealing_is_free.Goals as goal

pub returns : goal.returns
returns c = Sealing.sealing_is_free
