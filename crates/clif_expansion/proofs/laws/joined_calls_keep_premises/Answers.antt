use Rattle.clif_expansion.proofs.calls.Headline
use Rattle.clif_expansion.proofs.laws.joined_calls_keep_premises.Goals as goal

pub returns : goal.returns
returns c = Headline.keep_premises
