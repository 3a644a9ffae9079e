use Rattle.std.proofs.Common.{sym, subst}
use Rattle.clif_arguments.specs.Arguments.{AreSwitchCases}
use Rattle.clif_arguments.proofs.TakingTables.{TakesMany, cases_more}
use Rattle.clif_arguments.proofs.args.Args.last_switch_cases.Goals as goal

pub loop-entries-preserved : goal.loop-entries-preserved
loop-entries-preserved c =
    let one = c.in_ok-switch_case.ensures.ok in
    subst (λ taken. TakesMany AreSwitchCases c.args.self.now c.switch_case.new.self taken) (sym c.in_ok-push.ensures.items)
    (cases_more c.args.self.now c.loop-entries.self c.switch_case.new.self c.loop-entries.entries.items one.0 c.in_ok-switch_case.field-0 c.loop-entries.invariant c.in_ok-switch_case.ensures.scope one.1 one.2)
