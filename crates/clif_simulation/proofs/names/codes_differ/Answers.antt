use Rattle.clif_simulation.proofs.Codes
use Rattle.clif_simulation.proofs.names.codes_differ.Goals as goal

pub returns : goal.returns
returns c = Codes.differ
