use Rattle.std.proofs.Common.{rules, ◌≡◌, ◌∙◌, ◌+◌, sym, ap}
use Rattle.std.specs.Prelude.{OnOk, OnErr}
use Rattle.std.specs.FinMap as map
use Rattle.clif_records.specs.Records.{recording, HasEntry}
use Rattle.clif_records.specs.Tables.{lookups_at}
use Rattle.clif_records.specs.Pages.{records_in}
use Rattle.clif_records.proofs.RecordLaws.{either_way, on_ok}
use Rattle.clif_records.proofs.RecordMaps.{count_kept, value_changed}
use Rattle.clif_records.proofs.Pages.{entry_from, len-written}
use Rattle.clif_records.proofs.Places.{page_found, page_written_at}
use Rattle.clif_records.proofs.tables.VariableTable.set.Goals as goal

-- THE PAGE IS THERE -----------------------------------------------------------------------------------------------

pub returns-in-Some-clause-entry : goal.returns-in-Some-clause-entry
returns-in-Some-clause-entry c =
    rw (← c.self.view_is) (page_written_at c.self.inside.pages c.args.variable c.args.block c.page_number-number.result c.place_in_page.result c.in-Some.place (recording c.args.value) _ _ c.put_value.new.page
    c.page_number-number.ensures c.place_in_page.ensures.exact c.pair_mut-page.ensures.unique c.in-Some.ensures c.pair_mut-page.ensures.value c.put_value.ensures.changed)

pub invariant_of-self : goal.invariant_of-self
invariant_of-self c =
    ap (λ n. n + c.put_value.result) c.self.invariant ∙ ap (λ n. map.len (records_in c.self.inside.pages) + n) c.put_value.ensures.added
    ∙ sym (len-written c.self.inside.pages _ c.args.variable c.args.block c.page_number-number.result c.place_in_page.result (recording c.args.value) _
    c.page_number-number.ensures c.place_in_page.ensures.exact
    (page_found c.self.inside.pages c.args.variable c.page_number-number.result c.in-Some.place _ _ c.in-Some.ensures c.pair_mut-page.ensures.value)
    (entry_from _ _ _ c.args.variable c.args.block (recording c.args.value) c.self.view_is (returns-in-Some-clause-entry c)))

pub returns-in-Some-clause-ok : goal.returns-in-Some-clause-ok
returns-in-Some-clause-ok c = value_changed _ _ c.args.variable c.args.block c.args.value (returns-in-Some-clause-entry c)

pub returns-in-Some-clause-lookups : goal.returns-in-Some-clause-lookups
returns-in-Some-clause-lookups c = count_kept _ _ c.args.variable c.args.block c.args.value (returns-in-Some-clause-entry c)

-- IT ISN'T --------------------------------------------------------------------------------------------------------

pub returns-in-None-clause-ok : goal.returns-in-None-clause-ok
returns-in-None-clause-ok c =
    let has : OnOk c.set_in_other_page.result (HasEntry c.args.self.now c.set_in_other_page.new.self c.args.variable c.args.block (recording c.args.value)) = search rules in
    on_ok c.set_in_other_page.result _ _ (value_changed _ _ c.args.variable c.args.block c.args.value) has

pub returns-in-None-clause-lookups : goal.returns-in-None-clause-lookups
returns-in-None-clause-lookups c =
    let has : OnOk c.set_in_other_page.result (HasEntry c.args.self.now c.set_in_other_page.new.self c.args.variable c.args.block (recording c.args.value)) = search rules in
    let same : OnErr c.set_in_other_page.result (c.set_in_other_page.new.self ≡ c.args.self.now) = search rules in
    either_way c.set_in_other_page.result _ _ _ (count_kept _ _ c.args.variable c.args.block c.args.value) (λ is v b. ap (λ m. lookups_at m v b) is) has same
