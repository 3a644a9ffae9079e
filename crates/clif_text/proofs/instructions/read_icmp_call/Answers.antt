-- The words are the name, the condition's word and a word for each value.
use Rattle.std.proofs.Common.{List, ℕ, ◌∷◌, [], ap, subst, ◌∙◌}
use Rattle.clif_types.specs.Texts.{int_cc_text}
use Rattle.clif_arguments.specs.Arguments.{AreAnswers}
use Rattle.clif_arguments.specs.Scope.{names_of}
use Rattle.clif_text.proofs.instructions.read_icmp_call.Goals as goal

pub returns : goal.returns
returns c =
    let cond = c.in_ok-cond.ensures.ok in
    let two = c.in_ok-x.ensures.ok in
    let stand = subst (λ scope. AreAnswers (names_of scope.now) two.0 (c.in_ok-x.x ∷ c.in_ok-x.y ∷ [])) c.in_ok-cond.ensures.scope two.2 in
    let named = ap (λ (word : List ℕ). c.args.head.now ∷ word ∷ two.0) cond.2 ∙ ap (λ (head : List ℕ). head ∷ int_cc_text c.in_ok-cond.cond ∷ two.0) c.requires in
    (cond.0 ∷ two.0, cond.1 ∙ ap (λ rest. cond.0 ∷ rest) two.1, (two.0, named, stand))
