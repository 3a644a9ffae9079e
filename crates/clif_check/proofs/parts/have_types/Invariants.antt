use Rattle.clif_check.proofs.Pairs.{Below}
use Rattle.clif_check.proofs.Pieces.{HasTypeOf}
use Rattle.clif_check.proofs.parts.have_types.Given as goal

abbrev pub invariant-loop-place : goal.invariant-loop-place
invariant-loop-place l = Below (HasTypeOf l.func) l.place l.values l.params
