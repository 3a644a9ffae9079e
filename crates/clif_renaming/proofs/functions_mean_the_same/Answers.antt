use Rattle.clif_renaming.proofs.Premises
use Rattle.clif_renaming.proofs.functions_mean_the_same.Goals as goal

pub returns : goal.returns
returns c = Premises.functions_mean_the_same
