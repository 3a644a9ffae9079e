use Rattle.std.proofs.Common.{◌∙◌, arith}
use Rattle.clif_spiller.specs.Acting.{passed_values}
use Rattle.clif_spiller.proofs.Needing.{none_all, none_next, one_passed, passed_append}
use Rattle.clif_spiller.proofs.uses.passes_spilled.Goals as goal

pub loop-arg-preserved : goal.loop-arg-preserved
loop-arg-preserved c =
    none_next c.args.plan.now (passed_values c.args.func.now) (passed_append c.args.func.now) c.args.args.now c.loop-arg.arg-index c.arg-item.result c.loop-arg-test.true c.arg-item.is
    c.loop-arg.invariant (one_passed c.args.plan.now c.args.func.now c.arg-item.result ∙ c.is_spilled_argument.ensures.none c.if-is_spilled_argument.false)

pub returns : goal.returns
returns c = record {
  none = λ is.
      none_all c.args.plan.now (passed_values c.args.func.now) (passed_append c.args.func.now) c.args.args.now c.loop-arg.arg-index (omega (arith, c.loop-arg-test.false)) c.loop-arg.invariant;
}
