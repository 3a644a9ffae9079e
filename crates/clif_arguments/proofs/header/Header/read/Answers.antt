use Rattle.std.proofs.Common.{inl, inr, ap, rules}
use Rattle.clif_words.specs.Cursor.{words_left}
use Rattle.clif_arguments.specs.Header.{header_said}
use Rattle.clif_arguments.proofs.header.Header.read.Goals as goal

pub returns-in_ok-push-in-answer : goal.returns-in_ok-push-in-answer
returns-in_ok-push-in-answer c = inr (inr (inr (inr (inr (inr (words_left c.args.words.now, c.in_ok-answer_of-in-answer.field-0, search rules, c.in_ok-answer_of-in-answer.ensures, ap (λ answers. record (header_said c.args.self.now) { answers = answers }) c.in_ok-push-in-answer.ensures.items))))))

pub returns-in_ok-push-in-throw : goal.returns-in_ok-push-in-throw
returns-in_ok-push-in-throw c = inr (inr (inr (inr (inr (inl (words_left c.args.words.now, c.in_ok-throw_of-in-throw.field-0, search rules, c.in_ok-throw_of-in-throw.ensures, ap (λ answers. record (header_said c.args.self.now) { answers = answers }) c.in_ok-push-in-throw.ensures.items))))))
