-- The words are the name with the type behind it, and the bytes' word.
use Rattle.std.proofs.Common.{List, ℕ, ◌∷◌, [], ap}
use Rattle.clif_text.proofs.instructions.read_vconst_call.Goals as goal

pub returns : goal.returns
returns c =
    let bytes = c.in_ok-bytes.ensures.ok in
    let words = bytes.0 ∷ [] in
    (words, bytes.1, (c.args.suffix.now, bytes.0, ap (λ (head : List ℕ). head ∷ words) c.requires, c.in-Some.ensures, bytes.2))
