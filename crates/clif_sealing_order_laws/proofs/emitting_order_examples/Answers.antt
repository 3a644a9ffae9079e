use Rattle.std.proofs.Common.{refl}
use Rattle.clif_sealing_order_laws.proofs.OrderRow
use Rattle.clif_sealing_order_laws.proofs.emitting_order_examples.Goals as goal

pub returns : goal.returns
returns c = record {
  differ = refl;
  soon = refl;
  late = refl;
  soon_accepted = refl;
  late_accepted = refl;
  early_differs = refl;
  early = refl;
  early_blamed = λ is. cc;
  early_stopped = refl;
  other_key = OrderRow.other_key;
  never = refl;
  never_blamed = λ is. cc;
  twice_soon = refl;
  twice_refused = refl;
  twice_counted = refl;
  twice_counted_late = refl;
  twice_differs = refl;
  twice_never = refl;
  twice_blameless = refl;
  twice_counted_never = refl;
  missing_stopped = refl;
}
