use Rattle.std.proofs.Common.{◌+◌, length}
use Rattle.clif_safepoints.proofs.Searching.{IsWalking}
use Rattle.clif_safepoints.proofs.Visits.{unseen}
use Rattle.clif_safepoints.proofs.graph.post_order.Given as goal

abbrev pub invariant-loop-visit : goal.invariant-loop-visit
invariant-loop-visit l = IsWalking l.successors l.fn.entry l.seen l.visits.items l.order.items

abbrev pub decreases-loop-visit : goal.decreases-loop-visit
decreases-loop-visit l = unseen l.successors l.seen + length l.visits.items
