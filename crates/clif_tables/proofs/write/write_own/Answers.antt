use Rattle.std.proofs.Common.{refl, rules, codes, subst}
use Rattle.std.specs.Fmt.{HasWritten}
use Rattle.std.proofs.lemmas.Grind.{put_two}
use Rattle.clif_types.specs.Texts.{stack_slot_text, global_value_text}
use Rattle.clif_tables.specs.Preamble.{dynamic_slot_text, region_text, own_lines}
use Rattle.clif_tables.proofs.LineByLine.{lines_same}
use Rattle.clif_tables.proofs.write.write_own.Goals as goal

pub returns : goal.returns
returns g c = λ plain ok.
    let took = g.W.Write.write_str_gives in
    let slots = c.write_lines.ensures stack_slot_text (λ _. refl) plain (search rules) in
    let dynamic = c.write_lines-2.ensures dynamic_slot_text (λ _. refl) slots.plain (search rules) in
    let globals = c.write_lines-3.ensures global_value_text (λ _. refl) dynamic.plain (search rules) in
    let regions = c.write_lines-4.ensures region_text (λ _. refl) globals.plain ok in
    let start = c.args.f.now in
    let two = put_two took start c.write_lines.new.f c.write_lines-2.new.f _ _ _
    (lines_same took _ _ (codes "ss") stack_slot_text _ c.tables.inside.stack_slots c.as_slice.ensures slots)
    (lines_same took _ _ (codes "dss") dynamic_slot_text _ c.tables.inside.dynamic_stack_slots c.as_slice-2.ensures dynamic) refl in
    let three = put_two took start c.write_lines-2.new.f c.write_lines-3.new.f _ _ _ two
    (lines_same took _ _ (codes "gv") global_value_text _ c.tables.inside.global_values c.as_slice-3.ensures globals) refl in
    subst (λ t. HasWritten took start (own_lines t) c.write_lines-4.new.f) c.tables.view_is
    (put_two took start c.write_lines-3.new.f c.write_lines-4.new.f _ _ _ three
    (lines_same took _ _ (codes "region") region_text _ c.tables.inside.alias_regions.regions c.as_slice-4.ensures regions) refl)
