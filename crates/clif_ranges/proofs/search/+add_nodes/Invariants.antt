use Rattle.std.proofs.Common.{length}
use Rattle.clif_ranges.proofs.search.+add_nodes.Given as goal

abbrev pub decreases-add_nodes : goal.decreases-add_nodes
decreases-add_nodes l = length l.ranges.now
