use Rattle.clif_outcome_laws.proofs.Order
use Rattle.clif_outcome_laws.proofs.signed_order_is_mathematical.Goals as goal

pub returns : goal.returns
returns c = record { conditions = Order.conditions; one_number = Order.one_number }
