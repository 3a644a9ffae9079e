-- The words are one for each value.
use Rattle.std.proofs.Common.{◌∷◌, [], ap, subst, ◌∙◌}
use Rattle.clif_arguments.specs.Arguments.{AreAnswers}
use Rattle.clif_arguments.specs.Scope.{names_of}
use Rattle.clif_arguments.proofs.args.Args.three_values.Goals as goal

pub returns-clause-ok : goal.returns-clause-ok
returns-clause-ok c =
    let one = c.in_ok-first.ensures.ok in
    let two = c.in_ok-second.ensures.ok in
    let stand = subst (λ scope. AreAnswers (names_of scope.now) two.0 (c.in_ok-second.second ∷ c.in_ok-second.third ∷ [])) c.in_ok-first.ensures.scope two.2 in
    (one.0 ∷ two.0, one.1 ∙ ap (λ rest. one.0 ∷ rest) two.1, (one.2, stand))
