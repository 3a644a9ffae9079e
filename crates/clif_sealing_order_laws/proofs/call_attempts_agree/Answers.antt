use Rattle.clif_sealing_order_laws.proofs.PlainCalls
use Rattle.clif_sealing_order_laws.proofs.call_attempts_agree.Goals as goal

pub returns : goal.returns
returns c = PlainCalls.call_attempts_agree
