use Rattle.clif_builder.proofs.Remembered
use Rattle.clif_builder.proofs.laws.uses_agree.Goals as goal

pub returns : goal.returns
returns g c = Remembered.uses_agree
