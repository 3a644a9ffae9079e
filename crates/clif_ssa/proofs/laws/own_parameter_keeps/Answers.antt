use Rattle.clif_ssa.proofs.Bodies.{firm_from}
use Rattle.clif_ssa.proofs.CallersParameters.{callers_described}
use Rattle.clif_ssa.proofs.laws.own_parameter_keeps.Goals as goal

pub returns : goal.returns
returns c = λ own f s blocks b n ty known both there bare name. callers_described own f s blocks b n ty (firm_from f known) both there bare name
