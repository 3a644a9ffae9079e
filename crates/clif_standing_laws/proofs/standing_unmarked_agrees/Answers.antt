use Rattle.clif_standing_laws.proofs.Marked.UnmarkedMoves
use Rattle.clif_standing_laws.proofs.standing_unmarked_agrees.Goals as goal

pub returns : goal.returns
returns c = λ declared calls f context position consistent stands free tracked collector moves.
    UnmarkedMoves.unmarked_agrees calls f context.ssa consistent stands.carries free tracked collector moves
