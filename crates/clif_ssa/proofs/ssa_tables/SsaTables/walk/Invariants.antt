use Rattle.std.proofs.Common.{◌≡◌, ◌<◌, ◌-◌, length}
use Rattle.clif_instructions.specs.Members.{Once}
use Rattle.clif_ssa.specs.Ssa.{record_of}
use Rattle.clif_ssa.specs.LookUp.{IsWalk}
use Rattle.clif_records.specs.Pages.{IsAtHand}
use Rattle.clif_ssa.proofs.Walks.{AllBelow}
use Rattle.clif_ssa.proofs.ssa_tables.SsaTables.walk.Given as goal

abbrev pub invariant-loop-at_hand : goal.invariant-loop-at_hand
invariant-loop-at_hand l =
    IsWalk l.func l.self l.variable l.fn.block l.passed l.reached
    × Once l.passed × AllBelow (length l.self.blocks) l.passed
    × (l.reached < length l.func.blocks)
    × (l.recorded ≡ record_of l.self l.variable l.reached)
    × IsAtHand l.self.records l.variable l.at_hand

abbrev pub decreases-loop-at_hand : goal.decreases-loop-at_hand
decreases-loop-at_hand l = length l.self.blocks - length l.passed
