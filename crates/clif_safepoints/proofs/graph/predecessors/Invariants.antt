use Rattle.std.proofs.Common.{length, take}
use Rattle.clif_safepoints.specs.Graph.{sources_of}
use Rattle.clif_safepoints.specs.Tables.{AreRows}
use Rattle.clif_safepoints.proofs.graph.predecessors.Given as goal

abbrev pub invariant-loop-block : goal.invariant-loop-block
invariant-loop-block l = AreRows (length l.successors) (sources_of l.successors (take l.block-index l.order)) l.sources.items
