use Rattle.std.proofs.Common.{refl}
use Rattle.clif_moving_examples.proofs.Sparing
use Rattle.clif_moving_examples.proofs.sparing_is_needed.Goals as goal

pub returns : goal.returns
returns c = record { accepted = refl; before = Sparing.means_it_before; after = Sparing.after; without = Sparing.without }
