use Rattle.clif_tables.specs.Callees.{types_of}
use Rattle.clif_check.proofs.Pairs.{Below}
use Rattle.clif_check.proofs.Pieces.{Passes}
use Rattle.clif_check.proofs.parts.edge_matches.Given as goal

abbrev pub invariant-loop-place : goal.invariant-loop-place
invariant-loop-place l = Below (Passes l.func (types_of l.results) l.payload) l.place l.arguments l.params
