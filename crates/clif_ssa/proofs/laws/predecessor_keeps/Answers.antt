use Rattle.clif_ssa.proofs.Counting.{declared_soundly}
use Rattle.clif_ssa.proofs.laws.predecessor_keeps.Goals as goal

pub returns : goal.returns
returns c = declared_soundly
