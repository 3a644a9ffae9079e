-- The name is one word, or two for a function of the C library.
use Rattle.std.proofs.Common.{◌∷◌, [], refl, sym, subst, ◌∙◌}
use Rattle.clif_arguments.specs.Header.{IsFunctionName}
use Rattle.clif_arguments.proofs.args.Args.external_name.Goals as goal

pub returns-in-User-clause-ok : goal.returns-in-User-clause-ok
returns-in-User-clause-ok c =
    let word = c.in_ok-word-2.word.now in
    (word ∷ [], sym c.if-skips.ensures.no ∙ c.in_ok-word-2.ensures.ok, (word, refl, subst (IsFunctionName word) c.in-User.is c.in_ok-name.ensures))

pub returns-in-Testcase-clause-ok : goal.returns-in-Testcase-clause-ok
returns-in-Testcase-clause-ok c =
    let word = c.in_ok-word-2.word.now in
    (word ∷ [], sym c.if-skips.ensures.no ∙ c.in_ok-word-2.ensures.ok, (word, refl, subst (IsFunctionName word) c.in-Testcase.is c.in_ok-name.ensures))
