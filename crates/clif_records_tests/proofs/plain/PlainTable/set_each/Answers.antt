use Rattle.std.proofs.Common.{rules, ◌≡◌, ◌≢◌, ◌<◌, ◌≤◌, ◌∙◌, sym, subst, length, take, arith}
use Rattle.std.specs.Prelude.{slice_index}
use Rattle.std.proofs.lemmas.Grind.{common_steps}
use Rattle.clif_instructions.specs.Members.{stands_in}
use Rattle.clif_records.specs.Records.{RecordsIn, RecordsSome}
use Rattle.clif_records.proofs.Copying.{before-passed, records-further, records-some}
use Rattle.clif_records.proofs.OnePage.{past-all}
use Rattle.clif_records.proofs.RecordMaps.{count_kept, value_changed}
use Rattle.clif_records_tests.proofs.Along.{apart_further, taken}
use Rattle.clif_records_tests.proofs.plain.PlainTable.set_each.Goals as goal

pub loop-block-preserved : goal.loop-block-preserved
loop-block-preserved c =
    let so = c.loop-block.invariant in
    let inside : c.loop-block.block-index < length c.args.blocks.now = search rules in
    let at : slice_index c.args.blocks.now c.loop-block.block-index ≡ c.block-item.result = first_of (search rules, grind (arith, common_steps)) in
    let other : slice_index c.args.blocks.now c.loop-block.block-index ≢ c.args.from = first_of (search rules, grind (arith, common_steps)) in (
      subst (λ xs. RecordsIn c.args.self.now c.set.new.self c.args.variable c.args.value (λ b. stands_in b xs)) (sym (taken c.args.blocks.now c.loop-block.block-index c.block-item.result inside at))
          (records-further c.args.self.now c.loop-block.self c.set.new.self c.args.variable c.args.value c.block-item.result (take c.loop-block.block-index c.args.blocks.now) so.0
          (value_changed c.loop-block.self c.set.new.self c.args.variable c.block-item.result c.args.value c.in_ok-set.ensures.entry)),
      λ v b. count_kept c.loop-block.self c.set.new.self c.args.variable c.block-item.result c.args.value c.in_ok-set.ensures.entry v b ∙ so.1 v b,
      apart_further c.args.from c.loop-block.block-index c.args.blocks.now so.2 other,
    )

pub returns-in_err-set-clause-part : goal.returns-in_err-set-clause-part
returns-in_err-set-clause-part c =
    subst (λ now. RecordsSome c.args.self.now now c.args.variable c.args.value c.args.blocks.now) (sym c.in_err-set.ensures.refused)
    (records-some c.args.self.now c.loop-block.self c.args.variable c.args.value c.loop-block.block-index c.args.blocks.now c.loop-block.invariant.0)

pub returns-then-eq-clause-ok : goal.returns-then-eq-clause-ok
returns-then-eq-clause-ok c =
    let inside : c.loop-block.block-index < length c.args.blocks.now = search rules in
    let at : slice_index c.args.blocks.now c.loop-block.block-index ≡ c.args.from = first_of (search rules, grind (arith, common_steps)) in
    subst (λ xs. RecordsIn c.args.self.now c.loop-block.self c.args.variable c.args.value (λ b. stands_in b xs))
    (sym (before-passed c.args.from c.loop-block.block-index c.args.blocks.now inside at c.loop-block.invariant.2)) c.loop-block.invariant.0

pub returns-then-eq-clause-part : goal.returns-then-eq-clause-part
returns-then-eq-clause-part c =
    records-some c.args.self.now c.loop-block.self c.args.variable c.args.value c.loop-block.block-index c.args.blocks.now c.loop-block.invariant.0

pub returns-clause-ok : goal.returns-clause-ok
returns-clause-ok c =
    let past : length c.args.blocks.now ≤ c.loop-block.block-index = first_of (search rules, grind (arith, common_steps)) in
    subst (λ xs. RecordsIn c.args.self.now c.loop-block.self c.args.variable c.args.value (λ b. stands_in b xs)) (past-all c.args.from c.loop-block.block-index c.args.blocks.now past c.loop-block.invariant.2) c.loop-block.invariant.0
