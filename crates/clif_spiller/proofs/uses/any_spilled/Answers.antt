use Rattle.std.proofs.Common.{◌∙◌, ap, arith}
use Rattle.clif_types.specs.EntitySet.{has}
use Rattle.clif_ir.specs.Body.{resolved}
use Rattle.clif_spiller.proofs.Acting.{needs_none}
use Rattle.clif_spiller.proofs.Needing.{names_append, none_all, none_next}
use Rattle.std.proofs.Common.{map, sym}
use Rattle.clif_spiller.proofs.uses.any_spilled.Goals as goal

pub loop-operand-preserved : goal.loop-operand-preserved
loop-operand-preserved c =
    none_next c.args.plan.now (map (resolved c.args.func.now)) (names_append c.args.func.now) c.args.operands.now c.loop-operand.operand-index c.operand-item.result c.loop-operand-test.true c.operand-item.is
    c.loop-operand.invariant (needs_none c.args.plan.now (resolved c.args.func.now c.operand-item.result)
    (ap (has c.args.plan.now.spilled) (sym c.resolve_aliases.ensures.exact) ∙ sym c.is_spilled.ensures ∙ c.if-is_spilled.false))

pub returns : goal.returns
returns c = record {
  none = λ is.
      none_all c.args.plan.now (map (resolved c.args.func.now)) (names_append c.args.func.now) c.args.operands.now c.loop-operand.operand-index (omega (arith, c.loop-operand-test.false)) c.loop-operand.invariant;
}
