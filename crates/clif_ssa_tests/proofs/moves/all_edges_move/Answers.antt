use Rattle.std.proofs.Common.{rules}
use Rattle.clif_ir.proofs.Orders.{Stands-last}
use Rattle.clif_ssa_tests.proofs.moves.all_edges_move.Goals as goal

pub remove_block_predecessor-requires-clause-declared : goal.remove_block_predecessor-requires-clause-declared
remove_block_predecessor-requires-clause-declared g c = Stands-last _ _ (search rules)
