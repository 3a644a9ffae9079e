use Rattle.std.proofs.Common.{◌∙◌, Some, sym, ap}
use Rattle.std.specs.Prelude.{option_copied}
use Rattle.clif_records.specs.Pages.{kept_at, place_in_page}
use Rattle.clif_records.proofs.tables.PageAtHand.recorded.Goals as goal

pub returns-in-Some : goal.returns-in-Some
returns-in-Some c =
    c.kept_at.ensures ∙ ap (λ k. kept_at (Some c.in-Some.page.now) k) c.place_in_page.ensures.exact
    ∙ ap (λ p. kept_at (option_copied p) (place_in_page c.args.block)) (sym c.in-Some.is)
