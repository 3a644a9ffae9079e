use Rattle.clif_helper_calls.proofs.Laid
use Rattle.clif_helper_calls.proofs.codes_are_laid.Goals as goal

pub returns : goal.returns
returns c = Laid.codes_are_laid
