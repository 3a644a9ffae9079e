use Rattle.clif_finished_laws.proofs.Ordering.{carrying_keeps_in_order}
use Rattle.clif_finished_laws.proofs.carrying_keeps_in_order.Goals as goal

pub returns : goal.returns
returns c = carrying_keeps_in_order
