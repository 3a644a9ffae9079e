use Rattle.std.proofs.Common.{◌≡◌}
use Rattle.clif_instructions.specs.Edges.{taken_back}
use Rattle.clif_instructions.proofs.edges.take_back.Given as goal

abbrev pub invariant-loop-place : goal.invariant-loop-place
invariant-loop-place l = l.edges ≡ taken_back l.block l.place l.initial.edges
