use Rattle.clif_spilling_laws.proofs.Liveness.LivePaths.{entry_is_live}
use Rattle.clif_spilling_laws.proofs.nothing_live_at_entry.Goals as goal

pub returns : goal.returns
returns c = λ counts function v p well start live. entry_is_live counts function well v p start live
