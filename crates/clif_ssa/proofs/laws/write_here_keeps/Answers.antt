use Rattle.clif_ssa.proofs.Writing.{write_described}
use Rattle.clif_ssa.proofs.laws.write_here_keeps.Goals as goal

pub returns : goal.returns
returns c = write_described
