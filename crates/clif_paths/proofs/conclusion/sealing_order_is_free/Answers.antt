use Rattle.clif_paths.proofs.Concluding.{sealing_order_is_free}
use Rattle.clif_paths.proofs.conclusion.sealing_order_is_free.Goals as goal

pub returns : goal.returns
returns c = sealing_order_is_free
