use Rattle.clif_simulation.proofs.Shape.EdgesMatching.{edges_match}
use Rattle.clif_simulation.proofs.structure.construction_matches_edges.Goals as goal

pub returns : goal.returns
returns c = λ calls types own f s structured callers values typed_values earlier items named declared none_waits typed.
    edges_match calls f s own types structured callers values typed_values earlier items named declared none_waits typed
