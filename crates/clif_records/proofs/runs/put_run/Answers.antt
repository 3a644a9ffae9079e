use Rattle.std.proofs.Common.{rules, ◌≡◌, ◌≢◌, ◌+◌, ap, sym, ◌∙◌, arith}
use Rattle.std.specs.Prelude.{slice_index}
use Rattle.std.proofs.lemmas.Grind.{common_steps}
use Rattle.clif_records.specs.Pages.{page_number, place_in_page}
use Rattle.clif_records.proofs.Copying.{get_or-inside}
use Rattle.clif_records.proofs.OnePage.{below_one_more, few-further, positive, run-further}
use Rattle.clif_records.proofs.runs.put_run.Goals as goal
use Rattle.clif_records.proofs.runs.put_run.Goals.{then-eq-via-then-eq, then-eq-via-else-eq+then-page_number-number}

pub loop-block-preserved : goal.loop-block-preserved
loop-block-preserved c =
    let so = c.loop-block.invariant in
    let at : c.block-item.result ≡ slice_index c.args.blocks.now c.loop-block.run.blocks = c.block-item.is ∙ get_or-inside c.args.blocks.now c.loop-block.block-index c.block-item.result 0 c.loop-block-test.true ∙ ap (λ n. slice_index c.args.blocks.now n) (sym so.1) in
    let here : page_number c.block-item.result ≡ c.args.number = first_of (search rules, grind (arith, common_steps)) in
    let other : c.block-item.result ≢ c.args.from = first_of (search rules, grind (arith, common_steps)) in (
      run-further c.args.blocks.now c.args.value c.args.page.now c.loop-block.page c.put_value.new.page c.loop-block.run.added c.put_value.result c.loop-block.run.blocks c.place_in_page.result so.0
          (c.place_in_page.ensures.exact ∙ ap place_in_page at) c.put_value.ensures.changed c.put_value.ensures.added,
      ap (λ n. n + 1) so.1,
      below_one_more c.loop-block.run.blocks so.2 (ap page_number (sym at) ∙ here),
      below_one_more c.loop-block.run.blocks so.3 (λ is. other (at ∙ is)),
      few-further c.loop-block.page c.place_in_page.result c.loop-block.run.added c.put_value.result c.loop-block.run.blocks c.put_value.ensures.added so.4,
    )

pub returns-then-eq-clause-some : goal.returns-then-eq-clause-some
returns-then-eq-clause-some c = λ some here other.
    let at : c.block-item.result ≡ slice_index c.args.blocks.now c.loop-block.run.blocks =
    c.block-item.is ∙ get_or-inside c.args.blocks.now c.loop-block.block-index c.block-item.result 0 c.loop-block-test.true ∙ ap (λ n. slice_index c.args.blocks.now n) (sym c.loop-block.invariant.1) in
    positive c.loop-block.run.blocks (λ none.
    let first : c.block-item.result ≡ slice_index c.args.blocks.now 0 = at ∙ ap (λ n. slice_index c.args.blocks.now n) none in
    elim c.then-eq.branch [
      | then-eq-via-then-eq w ↦
          let is : c.block-item.result ≡ c.args.from = grind (arith, common_steps, w.if-eq, c.eq.ensures) in
          other (sym first ∙ is)
      | then-eq-via-else-eq+then-page_number-number w ↦
          let beyond : page_number c.block-item.result ≢ c.args.number = grind (arith, common_steps, w.if-page_number-number, w.page_number.ensures) in
          beyond (ap page_number first ∙ here)
    ])
