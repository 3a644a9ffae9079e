use Rattle.std.proofs.Common.{◌≡◌, map, take}
use Rattle.clif_switch.specs.Emission.{bare_to}
use Rattle.clif_switch.proofs.Edges.{Kept}
use Rattle.clif_switch.proofs.emission.jump_table.Given as goal

-- so many edges were made, and the builder is as it was
abbrev pub invariant-loop-block : goal.invariant-loop-block
invariant-loop-block g l = Kept l.fn.bx l.bx × (l.default ≡ bare_to l.fn.otherwise) × (l.entries.items ≡ map bare_to (take l.block-index l.blocks))
