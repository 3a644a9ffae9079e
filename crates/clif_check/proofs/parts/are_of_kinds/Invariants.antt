use Rattle.clif_check.proofs.Pairs.{Below}
use Rattle.clif_check.proofs.Pieces.{OfKind}
use Rattle.clif_check.proofs.parts.are_of_kinds.Given as goal

abbrev pub invariant-loop-place : goal.invariant-loop-place
invariant-loop-place l = Below (OfKind l.func l.controlling) l.place l.values l.kinds
