use Rattle.std.proofs.Common.{drop}
use Rattle.clif_switch.proofs.Emitted.{Emitted}
use Rattle.clif_switch.proofs.emission.emit_nodes.Given as goal

-- some nodes were emitted, and the others are left
abbrev pub invariant-loop-node : goal.invariant-loop-node
invariant-loop-node g l = Emitted l.fn.switched l.fn.nodes (drop l.node-index l.node-items) l.fn.bx l.bx l.blocks.items
