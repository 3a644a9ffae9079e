use Rattle.std.proofs.Common.{take}
use Rattle.std.specs.Prelude.{All}
use Rattle.clif_tables.specs.Callees.{types_of}
use Rattle.clif_check.specs.WellTyped.{Matches}
use Rattle.clif_check.proofs.parts.edges_match.Given as goal

abbrev pub invariant-loop-place : goal.invariant-loop-place
invariant-loop-place l = All (Matches l.func (types_of l.results) l.payload) (take l.place l.edges)
