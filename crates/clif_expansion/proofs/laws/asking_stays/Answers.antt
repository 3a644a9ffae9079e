use Rattle.clif_expansion.proofs.ScriptCalls
use Rattle.clif_expansion.proofs.laws.asking_stays.Goals as goal

pub returns : goal.returns
returns c = ScriptCalls.asking_stays
