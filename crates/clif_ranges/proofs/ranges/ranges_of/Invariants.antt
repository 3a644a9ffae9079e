use Rattle.clif_ranges.proofs.Gathering.{Gathers}
use Rattle.clif_ranges.proofs.ranges.ranges_of.Given as goal

abbrev pub invariant-loop-key : goal.invariant-loop-key
invariant-loop-key l = Gathers l.cases.entries l.key-iterator l.ranges.items
