-- The words are the name with the type behind it, and the number's word.
use Rattle.std.proofs.Common.{List, ℕ, ◌∷◌, [], ap}
use Rattle.clif_text.proofs.Numbers.{number_kept}
use Rattle.clif_text.proofs.instructions.read_iconst_call.Goals as goal

pub returns : goal.returns
returns c =
    let number = c.in_ok-imm.ensures.ok in
    (number.0 ∷ [], number.1, (c.args.suffix.now, number.0, ap (λ (word : List ℕ). word ∷ number.0 ∷ []) c.requires, c.in-Some.ensures, number_kept number.0 c.in_ok-imm.imm number.2))
