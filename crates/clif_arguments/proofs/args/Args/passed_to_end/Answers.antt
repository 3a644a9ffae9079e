use Rattle.std.proofs.Common.{sym, subst}
use Rattle.clif_arguments.specs.Arguments.{ArePassed}
use Rattle.clif_arguments.proofs.TakingTables.{TakesMany, passed_more}
use Rattle.clif_arguments.proofs.args.Args.passed_to_end.Goals as goal

pub loop-args-preserved : goal.loop-args-preserved
loop-args-preserved c =
    let one = c.in_ok-passed.ensures.ok in
    subst (λ taken. TakesMany ArePassed c.args.self.now c.passed.new.self taken) (sym c.in_ok-push.ensures.items)
    (passed_more c.args.self.now c.loop-args.self c.passed.new.self c.loop-args.args.items one.0 c.in_ok-passed.field-0 c.loop-args.invariant c.in_ok-passed.ensures.scope one.1 one.2)
