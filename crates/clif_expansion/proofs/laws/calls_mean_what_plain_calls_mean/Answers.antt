use Rattle.clif_expansion.proofs.calls.Headline
use Rattle.clif_expansion.proofs.laws.calls_mean_what_plain_calls_mean.Goals as goal

pub returns : goal.returns
returns c = Headline.calls_mean
