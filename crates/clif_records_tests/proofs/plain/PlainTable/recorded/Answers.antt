use Rattle.std.proofs.Common.{sym, ap, ◌∙◌}
use Rattle.std.specs.Option.{option_copied, unwrap_or}
use Rattle.clif_records.specs.Tables.{nothing_recorded}
use Rattle.clif_records_tests.proofs.Sorted.{got}
use Rattle.clif_records_tests.proofs.plain.PlainTable.recorded.Goals as goal

pub returns-in-Some : goal.returns-in-Some
returns-in-Some c =
    rw (← c.self.view_is)
    (sym (ap (λ e. unwrap_or e nothing_recorded) (got (c.args.variable, c.args.block) c.self.inside.sorted.entries ∙ sym c.get.ensures.value ∙ ap option_copied c.in-Some.is)))

pub returns-in-None : goal.returns-in-None
returns-in-None c =
    rw (← c.self.view_is)
    (sym (ap (λ e. unwrap_or e nothing_recorded) (got (c.args.variable, c.args.block) c.self.inside.sorted.entries ∙ sym c.get.ensures.value ∙ ap option_copied c.in-None.is)))
