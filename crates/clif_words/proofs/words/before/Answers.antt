use Rattle.clif_words.proofs.Places.{cut_at_end}
use Rattle.clif_words.proofs.words.before.Goals as goal

pub range-requires-clause-end_boundary : goal.range-requires-clause-end_boundary
range-requires-clause-end_boundary c = cut_at_end c.args.line.now c.requires.0 c.args.word.now c.args.after.now c.requires.1 c.utf8.word c.utf8.after
