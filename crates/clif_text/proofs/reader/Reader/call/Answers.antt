use Rattle.std.proofs.Common.{◌≡◌, length, refl, rules}
use Rattle.clif_words.specs.Cursor.{texts}
use Rattle.clif_text.proofs.Counting.{words_say}
use Rattle.clif_text.proofs.reader.Reader.call.Goals as goal

pub returns : goal.returns
returns c =
    let place : c.len.result ≡ length c.args.self.now.calls.items = search rules in
    words_say c.args.self.now _ c.count.new.self c.in_ok-call.call (texts c.args.names.now) (texts c.args.words.now) c.args.number c.len.result c.answers_of-answers.result.instruction c.declares_variable.result
    c.in_ok-call.ensures c.declares_variable.ensures c.in_ok-count.ensures c.answers_of-answers.ensures place c.in_ok-give_names.ensures refl c.in_ok-push.ensures.items c.in_ok-push-2.ensures.items
