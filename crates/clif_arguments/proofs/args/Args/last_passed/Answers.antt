use Rattle.std.proofs.Common.{◌∷◌, ◌++◌, [], refl, inl}
use Rattle.std.specs.Prelude.{codes}
use Rattle.std.proofs.lemmas.Result.{IfOk-weaker}
use Rattle.clif_arguments.proofs.Taking.{closed_words}
use Rattle.clif_arguments.proofs.args.Args.last_passed.Goals as goal

pub returns-then-skips-clause-ok : goal.returns-then-skips-clause-ok
returns-then-skips-clause-ok c =
    IfOk-weaker c.passed_to_close.result _ _
    (λ values h. (codes "(" ∷ (h.0 ++ codes ")" ∷ []), closed_words _ _ _ h.0 c.if-skips.ensures.yes h.1, inl (h.0, refl, h.2)))
    c.passed_to_close.ensures.ok
