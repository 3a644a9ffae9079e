use Rattle.clif_sealing_laws.proofs.SwitchOrder
use Rattle.clif_sealing_laws.proofs.switch_order_is_free.Goals as goal

pub returns : goal.returns
returns c = SwitchOrder.switch_order_is_free
