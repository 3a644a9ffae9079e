use Rattle.clif_switch_calls.proofs.Allowed
use Rattle.clif_switch_calls.proofs.laws.later_blocks_are_unwritten.Goals as goal

pub returns : goal.returns
returns c = Allowed.later_blocks
