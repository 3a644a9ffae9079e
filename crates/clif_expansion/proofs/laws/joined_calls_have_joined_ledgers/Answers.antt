use Rattle.clif_expansion.proofs.JoinedCalls
use Rattle.clif_expansion.proofs.laws.joined_calls_have_joined_ledgers.Goals as goal

pub returns : goal.returns
returns c = JoinedCalls.joined_calls
