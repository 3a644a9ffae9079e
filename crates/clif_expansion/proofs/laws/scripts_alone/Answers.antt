use Rattle.clif_expansion.proofs.ScriptsAlone
use Rattle.clif_expansion.proofs.laws.scripts_alone.Goals as goal

pub returns : goal.returns
returns c = ScriptsAlone.scripts_alone
