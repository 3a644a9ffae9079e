use Rattle.clif_expansion.proofs.calls.Verdicts
use Rattle.clif_expansion.proofs.laws.verdicts_are_read.Goals as goal

pub returns : goal.returns
returns c = Verdicts.verdicts_are_read
