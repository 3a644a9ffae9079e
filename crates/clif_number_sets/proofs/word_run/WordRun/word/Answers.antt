use Rattle.std.proofs.Common.{◌∙◌, get_or, sym, ap, arith}
use Rattle.std.specs.Option.{unwrap_or}
use Rattle.clif_number_sets.proofs.Joining.{spread_before, spread_from}
use Rattle.clif_number_sets.proofs.word_run.WordRun.word.Goals as goal

pub returns-in-Some : goal.returns-in-Some
returns-in-Some c =
    let first = c.args.self.now.first in
    let words = c.args.self.now.words.items in
    c.unwrap_or.ensures ∙ ap (λ o. unwrap_or o 0) c.copied.ensures ∙ c.get.ensures.lookup.4 (omega arith) 0 ∙ ap (λ ws. get_or ws c.in-Some.place 0) c.deref.ensures.value
    ∙ ap (λ k. get_or words k 0) c.in-Some.ensures.1 ∙ sym (spread_from first words c.args.number c.in-Some.ensures.0)

pub returns-in-None : goal.returns-in-None
returns-in-None c =
    let far = c.in-None.ensures in
    sym (spread_before c.args.self.now.first c.args.self.now.words.items c.args.number (omega (arith, far)))
