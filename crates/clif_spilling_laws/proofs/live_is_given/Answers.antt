use Rattle.clif_spilling_laws.proofs.Liveness.LivePaths.{live_after_below, live_below}
use Rattle.clif_spilling_laws.proofs.live_is_given.Goals as goal

pub returns : goal.returns
returns c = record {
  before = λ counts function count v p well once reachable live. live_below counts function well count once v p reachable live;
  after = λ counts function count v p well once reachable live. live_after_below counts function well count once v p reachable live;
}
