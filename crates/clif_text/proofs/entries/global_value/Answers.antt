use Rattle.std.proofs.Common.{◌∷◌, ap, refl, ◌∙◌}
use Rattle.std.specs.Prelude.{codes}
use Rattle.clif_text.proofs.entries.global_value.Goals as goal

pub returns-then-has-2 : goal.returns-then-has-2
returns-then-has-2 c =
    let name = c.in_ok-name.ensures.ok in
    (codes "symbol" ∷ name.0, c.if-has.ensures.taken ∙ (c.if-has-2.ensures.taken ∙ ap (λ rest. codes "symbol" ∷ rest) name.1), (name.0, refl, name.2))
