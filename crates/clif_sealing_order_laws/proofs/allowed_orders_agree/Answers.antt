use Rattle.clif_sealing_order_laws.proofs.PlainCalls
use Rattle.clif_sealing_order_laws.proofs.allowed_orders_agree.Goals as goal

pub returns : goal.returns
returns c = PlainCalls.allowed_orders_agree
