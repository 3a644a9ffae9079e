use Rattle.std.proofs.Common.{refl}
use Rattle.clif_meaning.proofs.examples.edge_examples.Goals as goal

pub returns : goal.returns
returns c = record { agree = (refl, (refl, tt)); misplaced = λ h. cc; missing = λ h. cc; fewer = λ h. cc; other = λ h. cc }
