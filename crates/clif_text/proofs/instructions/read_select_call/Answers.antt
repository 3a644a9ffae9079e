-- The words are the name and a word for each value.
use Rattle.std.proofs.Common.{List, ℕ, ◌∷◌, [], ap, subst, ◌∙◌}
use Rattle.clif_arguments.specs.Arguments.{AreAnswers}
use Rattle.clif_arguments.specs.Scope.{names_of}
use Rattle.clif_text.proofs.instructions.read_select_call.Goals as goal

pub returns : goal.returns
returns c =
    let one = c.in_ok-c.ensures.ok in
    let two = c.in_ok-x.ensures.ok in
    let stand = subst (λ scope. AreAnswers (names_of scope.now) two.0 (c.in_ok-x.x ∷ c.in_ok-x.y ∷ [])) c.in_ok-c.ensures.scope two.2 in
    let words = one.0 ∷ two.0 in
    (words, one.1 ∙ ap (λ rest. one.0 ∷ rest) two.1, (words, ap (λ (head : List ℕ). head ∷ words) c.requires, (one.2, stand)))
