use Rattle.std.proofs.Common.{◌≡◌, ◌-◌, ◌+◌, ◌∙◌, sym, ap, arith}
use Rattle.std.specs.Prelude.{Ok, Err}
use Rattle.std.proofs.lemmas.Result.{err_from_is_err_and}
use Rattle.clif_builder.specs.Builder.{answer_of, block_fault}
use Rattle.clif_builder.proofs.Faults.{fault_next, fault_here, fault_none}
use Rattle.clif_builder.proofs.finalize.check_blocks.Goals as goal

pub loop-number-preserved : goal.loop-number-preserved
loop-number-preserved c =
    let left : c.args.count - c.loop-number.number ≡ (c.args.count - (c.loop-number.number + 1)) + 1 = omega arith in
    let fine : answer_of (block_fault c.args.ctx.now c.loop-number.number) ≡ Ok tt =
    ap (λ b. answer_of (block_fault c.args.ctx.now b)) (sym c.new.ensures) ∙ sym c.check_block.ensures ∙ c.in_ok-check_block.was in
    sym (fault_next _ _ _ _ left fine) ∙ c.loop-number.invariant

pub returns-in_err-check_block : goal.returns-in_err-check_block
returns-in_err-check_block c =
    let p = err_from_is_err_and c.from_residual.result c.from_residual.ensures.1 in
    let left : c.args.count - c.loop-number.number ≡ (c.args.count - (c.loop-number.number + 1)) + 1 = omega arith in
    let wrong : answer_of (block_fault c.args.ctx.now c.loop-number.number) ≡ Err c.in_err-check_block.field-0.0 =
    ap (λ b. answer_of (block_fault c.args.ctx.now b)) (sym c.new.ensures) ∙ sym c.check_block.ensures ∙ c.in_err-check_block.was in
    p.1 ∙ ap Err p.2 ∙ sym (fault_here _ _ _ _ _ left wrong) ∙ ap answer_of c.loop-number.invariant

pub returns : goal.returns
returns c =
    let none_left : c.args.count - c.loop-number.number ≡ 0 = omega arith in
    ap answer_of (sym (fault_none _ _ _ none_left) ∙ c.loop-number.invariant)
