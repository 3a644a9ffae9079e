use Rattle.std.proofs.Common.{sym, subst}
use Rattle.clif_arguments.proofs.Taking.{TakesAnswers, takes_more}
use Rattle.clif_arguments.proofs.args.Args.answers_to_end.Goals as goal

pub loop-expected-preserved : goal.loop-expected-preserved
loop-expected-preserved c =
    let one = c.in_ok-answer.ensures.ok in
    subst (λ answers. TakesAnswers c.args.self.now c.answer.new.self answers) (sym c.in_ok-push.ensures.items)
    (takes_more c.args.self.now c.loop-expected.self c.answer.new.self c.loop-expected.values.items one.0 c.in_ok-answer.field-0 c.loop-expected.invariant c.in_ok-answer.ensures.scope one.1 one.2)
