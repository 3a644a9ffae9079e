use Rattle.clif_records.specs.Pages.{IsAtHand}
use Rattle.clif_records_tests.proofs.beside.agree_along.Given as goal

abbrev pub invariant-loop-block : goal.invariant-loop-block
invariant-loop-block g l = IsAtHand l.table l.variable l.at_hand
