use Rattle.std.proofs.Common.{rules, ◌≡◌, ◌≤◌, ◌∙◌, sym, subst, length, arith}
use Rattle.std.specs.Prelude.{slice_index}
use Rattle.std.proofs.lemmas.Grind.{common_steps}
use Rattle.clif_instructions.specs.Members.{stands_in}
use Rattle.clif_records.specs.Records.{RecordsIn, RecordsSome}
use Rattle.clif_records.proofs.Copying.{before-passed, get_or-inside, records-some}
use Rattle.clif_records.proofs.OnePage.{past-all, runs-apart, runs-joined, runs-within}
use Rattle.clif_records.proofs.tables.VariableTable.set_each.Goals as goal

pub loop-done-preserved : goal.loop-done-preserved
loop-done-preserved c =
    let so = c.loop-done.invariant in (
      runs-joined c.args.self.now c.loop-done.self c.set_run.new.self c.args.variable c.args.value c.loop-done.done c.in_ok-done.field-0 c.args.blocks.now so.0 c.in_ok-done.ensures.run,
      λ v b. c.in_ok-done.ensures.lookups v b ∙ so.1 v b,
      runs-apart c.args.from c.loop-done.done c.in_ok-done.field-0 c.args.blocks.now so.2 c.in_ok-done.ensures.apart,
      runs-within c.loop-done.done c.in_ok-done.field-0 c.args.blocks.now so.3 c.in_ok-done.ensures.within.1,
    )

pub returns-in_err-done-clause-part : goal.returns-in_err-done-clause-part
returns-in_err-done-clause-part c =
    subst (λ now. RecordsSome c.args.self.now now c.args.variable c.args.value c.args.blocks.now) (sym c.in_err-done.ensures.refused)
    (records-some c.args.self.now c.loop-done.self c.args.variable c.args.value c.loop-done.done c.args.blocks.now c.loop-done.invariant.0)

pub returns-after-loop-done-clause-ok : goal.returns-after-loop-done-clause-ok
returns-after-loop-done-clause-ok c =
    let past : length c.args.blocks.now ≤ c.loop-done.done = first_of (search rules, grind (arith, common_steps)) in
    subst (λ xs. RecordsIn c.args.self.now c.loop-done.self c.args.variable c.args.value (λ b. stands_in b xs)) (past-all c.args.from c.loop-done.done c.args.blocks.now past c.loop-done.invariant.2) c.loop-done.invariant.0

pub returns-then-eq-clause-ok : goal.returns-then-eq-clause-ok
returns-then-eq-clause-ok c =
    let is : c.index-blocks-done.result ≡ c.args.from = first_of (search rules, grind (arith, common_steps)) in
    let at : slice_index c.args.blocks.now c.loop-done.done ≡ c.args.from =
    sym (c.index-blocks-done.is ∙ get_or-inside c.args.blocks.now c.loop-done.done c.index-blocks-done.result 0 c.loop-done-test.true) ∙ is in
    subst (λ xs. RecordsIn c.args.self.now c.loop-done.self c.args.variable c.args.value (λ b. stands_in b xs))
    (sym (before-passed c.args.from c.loop-done.done c.args.blocks.now c.loop-done-test.true at c.loop-done.invariant.2)) c.loop-done.invariant.0

pub returns-then-eq-clause-part : goal.returns-then-eq-clause-part
returns-then-eq-clause-part c =
    records-some c.args.self.now c.loop-done.self c.args.variable c.args.value c.loop-done.done c.args.blocks.now c.loop-done.invariant.0
