-- The words are the name and the value's word.
use Rattle.std.proofs.Common.{List, ℕ, ◌∷◌, [], ap}
use Rattle.clif_text.proofs.instructions.read_isplit_call.Goals as goal

pub returns : goal.returns
returns c =
    let one = c.in_ok-x.ensures.ok in
    let words = one.0 ∷ [] in
    (words, one.1, (one.0, ap (λ (head : List ℕ). head ∷ words) c.requires, one.2))
