use Rattle.std.proofs.Common.{refl}
use Rattle.clif_outcome_laws.proofs.lane_examples.Goals as goal

pub returns : goal.returns
returns c = record {
  bytes = refl;
  not_reversed = λ h. cc;
  pairs = refl;
  one_lane = refl;
  made = refl;
  stored = refl;
  splat_pair = refl;
  not_one_lane = λ h. cc;
  splat_float = refl;
}
