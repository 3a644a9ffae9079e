use Rattle.std.proofs.Common.{◌≡◌}
use Rattle.clif_instructions.specs.Edges.{appended_to}
use Rattle.clif_instructions.proofs.EdgeLoops.{partly}
use Rattle.clif_instructions.proofs.edges.append_to_edges.Given as goal

abbrev pub invariant-loop-place : goal.invariant-loop-place
invariant-loop-place l = l.edges ≡ partly (appended_to l.block l.value) l.place l.initial.edges
