use Rattle.std.proofs.Common.{refl}
use Rattle.clif_moving_examples.proofs.Across
use Rattle.clif_moving_examples.proofs.Join
use Rattle.clif_moving_examples.proofs.moving_theorem_is_met.Goals as goal

pub returns : goal.returns
returns c = record {
  across_accepted = refl;
  across_calls = Across.is_met;
  join_accepted = refl;
  by_first = Join.by_first;
  by_other = Join.by_other;
}
