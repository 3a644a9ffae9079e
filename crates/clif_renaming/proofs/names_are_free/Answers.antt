use Rattle.clif_renaming.proofs.LockStep
use Rattle.clif_renaming.proofs.names_are_free.Goals as goal

pub returns : goal.returns
returns c = LockStep.names_are_free
