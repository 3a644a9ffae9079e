-- The words are the name and a word for each value.
use Rattle.std.proofs.Common.{List, ℕ, ◌∷◌, ap}
use Rattle.clif_text.proofs.memory.read_library_call.Goals as goal

pub returns : goal.returns
returns c =
    let three = c.in_ok-first.ensures.ok in
    (three.0, three.1, (three.0, ap (λ (head : List ℕ). head ∷ three.0) c.requires, three.2))
