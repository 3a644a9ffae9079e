use Rattle.clif_paths.proofs.LookUpExample.{look_up_fills}
use Rattle.clif_paths.proofs.examples.look_up_fills.Goals as goal

pub returns : goal.returns
returns c = look_up_fills
