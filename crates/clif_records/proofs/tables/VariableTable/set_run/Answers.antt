use Rattle.std.proofs.Common.{rules, ◌≡◌, ◌+◌, ◌∙◌, sym, ap, arith}
use Rattle.std.specs.Prelude.{slice_index}
use Rattle.std.proofs.lemmas.Grind.{common_steps}
use Rattle.clif_records.specs.Records.{recording, HasEntry}
use Rattle.clif_records.specs.Pages.{page_number}
use Rattle.clif_records.proofs.Copying.{get_or-inside}
use Rattle.clif_records.proofs.RecordMaps.{count_kept}
use Rattle.clif_records.proofs.Places.{has_page, page_found}
use Rattle.clif_records.proofs.OnePage.{first-recorded, run-recorded}
use Rattle.clif_records.proofs.tables.VariableTable.set_run.Goals as goal

-- THE PAGE IS THERE -----------------------------------------------------------------------------------------------

pub returns-in-Some-clause-run : goal.returns-in-Some-clause-run
returns-in-Some-clause-run c =
    let whole = run-recorded c.self.inside.pages.entries _ c.args.variable c.page_number-number.result c.args.value c.args.blocks.now _ c.put_run-run.new.page c.put_run-run.result.added c.put_run-run.result.blocks
    c.put_run-run.ensures.within c.put_run-run.ensures.of_page
    (page_found c.self.inside.pages c.args.variable c.page_number-number.result c.in-Some.place _ _ c.in-Some.ensures c.pair_mut-page.ensures.value) c.put_run-run.ensures.run
    (has_page c.self.inside.pages c.args.variable c.page_number-number.result c.in-Some.place c.put_run-run.new.page c.pair_mut-page.ensures.unique c.in-Some.ensures) in
    rw (← c.self.view_is) whole.records

pub returns-in-Some-clause-lookups : goal.returns-in-Some-clause-lookups
returns-in-Some-clause-lookups c =
    let whole = run-recorded c.self.inside.pages.entries _ c.args.variable c.page_number-number.result c.args.value c.args.blocks.now _ c.put_run-run.new.page c.put_run-run.result.added c.put_run-run.result.blocks
    c.put_run-run.ensures.within c.put_run-run.ensures.of_page
    (page_found c.self.inside.pages c.args.variable c.page_number-number.result c.in-Some.place _ _ c.in-Some.ensures c.pair_mut-page.ensures.value) c.put_run-run.ensures.run
    (has_page c.self.inside.pages c.args.variable c.page_number-number.result c.in-Some.place c.put_run-run.new.page c.pair_mut-page.ensures.unique c.in-Some.ensures) in
    rw (← c.self.view_is) whole.lookups

pub invariant_of-self : goal.invariant_of-self
invariant_of-self c =
    let whole = run-recorded c.self.inside.pages.entries _ c.args.variable c.page_number-number.result c.args.value c.args.blocks.now _ c.put_run-run.new.page c.put_run-run.result.added c.put_run-run.result.blocks
    c.put_run-run.ensures.within c.put_run-run.ensures.of_page
    (page_found c.self.inside.pages c.args.variable c.page_number-number.result c.in-Some.place _ _ c.in-Some.ensures c.pair_mut-page.ensures.value) c.put_run-run.ensures.run
    (has_page c.self.inside.pages c.args.variable c.page_number-number.result c.in-Some.place c.put_run-run.new.page c.pair_mut-page.ensures.unique c.in-Some.ensures) in
    ap (λ n. n + c.put_run-run.result.added) c.self.invariant ∙ sym whole.count

pub returns-in-Some-clause-within : goal.returns-in-Some-clause-within
returns-in-Some-clause-within c =
    let first : c.index-blocks-0.result ≡ slice_index c.args.blocks.now 0 = c.index-blocks-0.is ∙ get_or-inside c.args.blocks.now 0 c.index-blocks-0.result 0 c.requires.some in
    (c.put_run-run.ensures.some c.requires.some (sym (c.page_number-number.ensures ∙ ap page_number first)) c.requires.first, c.put_run-run.ensures.within)

-- IT ISN'T --------------------------------------------------------------------------------------------------------

pub returns-in_ok-set_in_other_page-in-None-clause-run : goal.returns-in_ok-set_in_other_page-in-None-clause-run
returns-in_ok-set_in_other_page-in-None-clause-run c =
    let has : HasEntry c.args.self.now c.set_in_other_page.new.self c.args.variable c.index-blocks-0-in-None.result (recording c.args.value) = first_of (search rules, grind (arith, common_steps)) in
    let first : c.index-blocks-0-in-None.result ≡ slice_index c.args.blocks.now 0 = c.index-blocks-0-in-None.is ∙ get_or-inside c.args.blocks.now 0 c.index-blocks-0-in-None.result 0 c.requires.some in
    first-recorded _ _ c.args.variable c.args.value c.index-blocks-0-in-None.result c.args.blocks.now c.requires.some first has

pub returns-in_ok-set_in_other_page-in-None-clause-lookups : goal.returns-in_ok-set_in_other_page-in-None-clause-lookups
returns-in_ok-set_in_other_page-in-None-clause-lookups c =
    let has : HasEntry c.args.self.now c.set_in_other_page.new.self c.args.variable c.index-blocks-0-in-None.result (recording c.args.value) = first_of (search rules, grind (arith, common_steps)) in
    count_kept _ _ c.args.variable c.index-blocks-0-in-None.result c.args.value has
