use Rattle.clif_renaming.proofs.Premises
use Rattle.clif_renaming.proofs.premises_stay.Goals as goal

pub returns : goal.returns
returns c = Premises.premises_stay
