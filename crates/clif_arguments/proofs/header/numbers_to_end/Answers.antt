use Rattle.std.proofs.Common.{sym, subst, ap, ◌∙◌, ◌++◌, ◌∷◌, [], rules}
use Rattle.clif_arguments.proofs.Headers.{TakesNumbers, takes_one_number, takes_all_numbers}
use Rattle.clif_arguments.proofs.header.numbers_to_end.Goals as goal

pub loop-words-preserved : goal.loop-words-preserved
loop-words-preserved c =
    subst (λ numbers. TakesNumbers c.args.words.now c.take.new.self numbers) (sym (c.in_ok-push.ensures.items ∙ ap (λ number. c.loop-words.values.items ++ number ∷ []) (search rules)))
    (takes_one_number c.args.words.now c.loop-words.words c.take.new.self c.loop-words.values.items c.in_ok-word.word.now c.in_ok-number_of.field-0 c.loop-words.invariant c.in_ok-word.ensures.ok c.in_ok-number_of.ensures)

pub returns : goal.returns
returns c = takes_all_numbers c.args.words.now c.loop-words.words c.loop-words.values.items c.loop-words.invariant (c.is_empty.ensures.0 (search rules))
