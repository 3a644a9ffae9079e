use Rattle.clif_safepoints.proofs.OneOrder.{one_order}
use Rattle.clif_safepoints.proofs.laws.one_depth_first_order.Goals as goal

pub returns : goal.returns
returns c = one_order
