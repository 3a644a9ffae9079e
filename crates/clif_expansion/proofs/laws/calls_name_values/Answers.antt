use Rattle.clif_expansion.proofs.calls.Given
use Rattle.clif_expansion.proofs.laws.calls_name_values.Goals as goal

pub returns : goal.returns
returns c = Given.calls_name_values
