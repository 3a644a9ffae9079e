use Rattle.std.proofs.Common.{ap, ap₂, refl, ◌∙◌, ◌∷◌, [], rules}
use Rattle.std.specs.Prelude.{ℤ}
use Rattle.clif_arguments.proofs.Headers.{two_numbers}
use Rattle.clif_arguments.proofs.header.throw_of.Goals as goal

pub returns : goal.returns
returns c = (
  c.in_ok-word.word.now,
  c.in_ok-take.field-0.now,
  c.in_ok-take-2.field-0.now,
  c.in_ok-take-3.field-0.now,
  c.in_ok-item.item,
  c.in_ok-word.ensures.ok ∙ ap (λ rest. c.in_ok-word.word.now ∷ rest)
      (c.in_ok-take.ensures.ok ∙ ap (λ rest. c.in_ok-take.field-0.now ∷ rest)
      (c.in_ok-take-2.ensures.ok ∙ ap (λ rest. c.in_ok-take-2.field-0.now ∷ rest)
      (c.in_ok-take-3.ensures.ok ∙ ap (λ rest. c.in_ok-take-3.field-0.now ∷ rest) (c.in_ok-end.ensures.0 refl)))),
  c.in_ok-callee.ensures,
  refl,
  c.in_ok-item.ensures,
  two_numbers c.in_ok-take-2.field-0.now c.in_ok-take-3.field-0.now c.in_ok-first.first c.in_ok-second.second c.in_ok-values.values.items
      (c.in_ok-values.ensures.items ∙ ap₂ (λ (a b : ℤ). a ∷ b ∷ []) (search rules) (search rules)) c.in_ok-first.ensures c.in_ok-second.ensures,
)
