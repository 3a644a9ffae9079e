use Rattle.std.proofs.Common.{rules, ◌∙◌, ◌+◌, sym, ap, arith}
use Rattle.std.proofs.lemmas.Grind.{common_steps}
use Rattle.std.specs.FinMap as map
use Rattle.clif_records.specs.Records.{recording}
use Rattle.clif_records.specs.Pages.{records_in}
use Rattle.clif_records.proofs.Pages.{entry_from, len-after-at, page_changed}
use Rattle.clif_records.proofs.tables.VariableTable.set_in_other_page.Goals as goal

pub returns-clause-entry : goal.returns-clause-entry
returns-clause-entry c =
    rw (← c.self.view_is) (page_changed c.self.inside.pages.entries _ _ c.args.variable c.args.block c.page_number-number.result c.place_in_page.result (recording c.args.value) c.or_insert-page.result.now _
    c.page_number-number.ensures c.place_in_page.ensures.exact ((c.in_ok-entry.ensures.update).0 _).0
    (first_of (search rules, grind (arith, common_steps))) c.put_value.ensures.changed (first_of (search rules, grind (arith, common_steps))))

pub invariant_of-self-2 : goal.invariant_of-self-2
invariant_of-self-2 c =
    ap (λ n. n + c.put_value.result) c.self.invariant ∙ ap (λ n. map.len (records_in c.self.inside.pages) + n) c.put_value.ensures.added
    ∙ sym (len-after-at c.self.inside.pages.entries _ c.args.variable c.args.block c.page_number-number.result c.place_in_page.result (recording c.args.value) c.or_insert-page.result.now
    c.page_number-number.ensures c.place_in_page.ensures.exact (first_of (search rules, grind (arith, common_steps)))
    (entry_from _ _ _ c.args.variable c.args.block (recording c.args.value) c.self.view_is (returns-clause-entry c)))
