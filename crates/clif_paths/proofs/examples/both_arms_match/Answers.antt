use Rattle.clif_paths.proofs.ShapeExample.{both_arms_match}
use Rattle.clif_paths.proofs.examples.both_arms_match.Goals as goal

pub returns : goal.returns
returns c = both_arms_match
