use Rattle.std.proofs.Common.{rules}
use Rattle.clif_ir.proofs.Orders.{Stands-last}
use Rattle.clif_ssa_tests.proofs.moves.moves.Goals as goal

pub move_branch-requires-clause-leads : goal.move_branch-requires-clause-leads
move_branch-requires-clause-leads g c = Stands-last _ _ (search rules)
