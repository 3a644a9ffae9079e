use Rattle.clif_helper_calls.proofs.Standing
use Rattle.clif_helper_calls.proofs.single_calls_stand.Goals as goal

pub returns : goal.returns
returns c = Standing.single_calls_stand
