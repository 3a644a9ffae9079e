use Rattle.std.proofs.Common.{◌≡◌, replicate, ap, ◌∙◌, rules}
use Rattle.clif_number_sets.specs.Words.{marks_of}
use Rattle.clif_number_sets.proofs.Marks.{marks-zeros}
use Rattle.clif_number_sets.proofs.number_set.NumberSet.new.Goals as goal

pub returns-clause-ok : goal.returns-clause-ok
returns-clause-ok c =
    let zeros : c.in_ok-words.words.items ≡ replicate c.div_ceil.result 0 = search rules in
    ap (marks_of c.args.size) zeros ∙ marks-zeros c.args.size c.div_ceil.result
