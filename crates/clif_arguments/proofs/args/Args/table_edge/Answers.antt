use Rattle.std.proofs.Common.{◌∷◌, ap, refl, subst, ◌∙◌}
use Rattle.clif_arguments.specs.Arguments.{AreLastPassed}
use Rattle.clif_arguments.specs.Scope.{names_of}
use Rattle.clif_arguments.proofs.args.Args.table_edge.Goals as goal

pub returns-clause-ok : goal.returns-clause-ok
returns-clause-ok c =
    let block = c.in_ok-block.ensures.ok in
    let args = c.in_ok-args.ensures.ok in
    let stand = subst (λ scope. AreLastPassed (names_of scope.now) args.0 c.in_ok-args.args.items) c.in_ok-block.ensures.scope args.2 in
    (block.0 ∷ args.0, block.1 ∙ ap (λ rest. block.0 ∷ rest) args.1, (block.0, args.0, refl, block.2, stand))
