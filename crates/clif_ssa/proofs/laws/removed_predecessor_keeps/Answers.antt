use Rattle.clif_ssa.proofs.Counting.{removed_soundly}
use Rattle.clif_ssa.proofs.laws.removed_predecessor_keeps.Goals as goal

pub returns : goal.returns
returns c = removed_soundly
