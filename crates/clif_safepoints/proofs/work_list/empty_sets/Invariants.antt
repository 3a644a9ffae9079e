use Rattle.clif_safepoints.specs.Fronts.{AreEmpty}
use Rattle.clif_safepoints.proofs.work_list.empty_sets.Given as goal

abbrev pub invariant-loop-number : goal.invariant-loop-number
invariant-loop-number l = AreEmpty l._number l.places l.sets.items
