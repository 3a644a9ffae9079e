use Rattle.std.proofs.Common.{sym, subst, ◌∙◌}
use Rattle.clif_arguments.proofs.Taking.{TakesAnswers, takes_more}
use Rattle.clif_arguments.proofs.args.Args.values_to_close.Goals as goal

pub loop-values-preserved : goal.loop-values-preserved
loop-values-preserved c =
    let one = c.in_ok-answer.ensures.ok in
    subst (λ answers. TakesAnswers c.args.self.now c.answer.new.self answers) (sym c.in_ok-push.ensures.items)
    (takes_more c.args.self.now c.loop-values.self c.answer.new.self c.loop-values.values.items one.0 c.in_ok-answer.field-0 c.loop-values.invariant c.in_ok-answer.ensures.scope (sym c.loop-values-test.ensures.no ∙ one.1) one.2)
