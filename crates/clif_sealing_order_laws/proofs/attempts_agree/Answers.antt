use Rattle.clif_sealing_order_laws.proofs.PlainCalls
use Rattle.clif_sealing_order_laws.proofs.attempts_agree.Goals as goal

pub returns : goal.returns
returns c = PlainCalls.attempts_agree
