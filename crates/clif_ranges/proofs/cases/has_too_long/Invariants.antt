use Rattle.std.proofs.Common.{ℕ, ◌<◌, get_or}
use Rattle.clif_ranges.specs.Cases.{FitsTable}
use Rattle.clif_ranges.specs.declared.ranges.CaseRange.{CaseRange}
use Rattle.clif_ranges.proofs.cases.has_too_long.Given as goal

abbrev pub invariant-loop-range : goal.invariant-loop-range
invariant-loop-range l = (k : ℕ) (d : CaseRange) → k < l.range-index → FitsTable (get_or l.ranges k d)
