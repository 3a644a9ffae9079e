use Rattle.std.proofs.Common.{◌∷◌, ap, ◌∙◌, rules}
use Rattle.std.specs.Prelude.{codes}
use Rattle.clif_arguments.proofs.Headers.{returned}
use Rattle.clif_arguments.proofs.header.take_returns.Goals as goal

pub returns : goal.returns
returns c =
    let taken = c.in_ok-returns.ensures in
    (codes "->" ∷ taken.0, c.if-not-skips.ensures.yes ∙ ap (λ rest. codes "->" ∷ rest) taken.1, returned taken.0 c.in_ok-returns.returns.items taken.2 (λ none. search rules))
