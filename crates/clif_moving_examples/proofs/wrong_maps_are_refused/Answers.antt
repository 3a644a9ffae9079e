use Rattle.clif_moving_examples.proofs.Across
use Rattle.clif_moving_examples.proofs.Join
use Rattle.clif_moving_examples.proofs.wrong_maps_are_refused.Goals as goal

pub returns : goal.returns
returns c = record {
  no_entry = Across.no_entry;
  other_slot = Across.other_slot;
  twice = Across.twice;
  join_no_entry = Join.no_entry;
  join_other_slot = Join.other_slot;
  join_twice = Join.twice;
}
