use Rattle.std.proofs.Common.{◌≡◌}
use Rattle.clif_instructions.specs.Edges.{redirected}
use Rattle.clif_instructions.proofs.EdgeLoops.{partly}
use Rattle.clif_instructions.proofs.edges.redirect_edges.Given as goal

abbrev pub invariant-loop-place : goal.invariant-loop-place
invariant-loop-place l = l.edges ≡ partly (redirected l.from l.to) l.place l.initial.edges
