use Rattle.clif_builder.proofs.Standing.{standing_edges}
use Rattle.clif_builder.proofs.laws.standing_matches_edges.Goals as goal

pub returns : goal.returns
returns c = standing_edges
