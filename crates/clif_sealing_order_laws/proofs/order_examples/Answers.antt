use Rattle.std.proofs.Common.{refl}
use Rattle.clif_sealing_order_laws.proofs.OrderRow
use Rattle.clif_sealing_order_laws.proofs.order_examples.Goals as goal

pub returns : goal.returns
returns c = record {
  sample = refl;
  early = refl;
  late = refl;
  early_accepted = refl;
  late_accepted = refl;
  too_early = refl;
  not_so_early = refl;
  branch_stopped = refl;
  change_differs = refl;
  change_late = refl;
  change_accepted = refl;
  change_early = refl;
  change_stopped = refl;
  twice = refl;
  not_there = refl;
  never = refl;
  not_begun = refl;
  left_behind = refl;
  left_allowed = refl;
  left_accepted = refl;
  left_late = refl;
  left_stopped = refl;
  missing = refl;
  missing_allowed = refl;
  missing_allowed_late = refl;
  missing_misuse = refl;
  missing_misuse_late = refl;
  counted = refl;
  counted_late = refl;
  missing_never = refl;
  never_allowed = refl;
  never_blamed = refl;
  never_counted = refl;
  entry_left = refl;
  entry_not_allowed = refl;
  entry_blameless = refl;
  entry_blameless_late = refl;
  entry_counted = refl;
  entry_counted_late = refl;
  blamed = λ is. cc;
  left_blamed = λ is. cc;
  tried_differ = refl;
  tried_refused = refl;
  tried_counted = refl;
  tried_counted_late = refl;
  not_tried = OrderRow.not_tried;
  unended = refl;
  unended_allowed = refl;
  unended_allowed_late = refl;
  unended_counted = refl;
  unended_counted_late = refl;
}
