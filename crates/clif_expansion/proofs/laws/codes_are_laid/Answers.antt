use Rattle.clif_expansion.proofs.LaidCodes
use Rattle.clif_expansion.proofs.laws.codes_are_laid.Goals as goal

pub returns : goal.returns
returns c = LaidCodes.codes_are_laid
