use Rattle.std.proofs.Common.{refl}
use Rattle.clif_ssa.proofs.Counts.{counts_kept}
use Rattle.clif_ssa.proofs.Writing.{same_state}
use Rattle.clif_ssa.proofs.laws.same_state_keeps.Goals as goal

pub returns : goal.returns
returns c = λ own f s t blocks records same leads. (
  same_state own f s t blocks records same leads,
  λ counts. counts_kept own f s t blocks blocks counts leads (λ v. refl),
)
