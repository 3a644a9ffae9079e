use Rattle.std.proofs.Common.{◌∙◌, sym, ap}
use Rattle.clif_records.proofs.Pages.{recorded_at-found, same_key}
use Rattle.std.specs.HashMap.{get}
use Rattle.clif_records.proofs.tables.VariableTable.page_of.Goals as goal

pub returns-clause-at_hand : goal.returns-clause-at_hand
returns-clause-at_hand c =
    rw (← c.self.view_is) (λ b is. recorded_at-found c.self.inside.pages c.args.variable b _
    (c.page_at.ensures ∙ ap (λ n. get same_key c.self.inside.pages (c.args.variable, n)) (sym is)))
