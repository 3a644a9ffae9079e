use Rattle.clif_constant_calls.proofs.Standing
use Rattle.clif_constant_calls.proofs.laws.constant_operands_stand.Goals as goal

pub returns : goal.returns
returns g c = Standing.stand c.ledger_is_read_by_number.ensures c.requests_ask_for_their_shapes.ensures _
