use Rattle.std.proofs.Common.{◌≡◌, take, map}
use Rattle.std.specs.Prelude.{Some}
use Rattle.clif_resolution.specs.Answers.{edge_at}
use Rattle.clif_resolution.proofs.tables.edges_copied.Given as goal

abbrev pub invariant-loop-name : goal.invariant-loop-name
invariant-loop-name l = map (edge_at l.answers) (take l.name-index l.names) ≡ map Some l.edges.items
