use Rattle.std.specs.Cmp.Lexicographic.{same_text}
use Rattle.clif_words.proofs.Left.{left_read}
use Rattle.clif_words.proofs.cursor.Cursor.skips.Goals as goal

pub returns-in-Some-clause-yes : goal.returns-in-Some-clause-yes
returns-in-Some-clause-yes c =
    left_read c.args.self.now.words.now c.args.self.now.taken c.in-Some.next.now c.args.word.now c.in-Some.ensures.lookup.0 c.in-Some.ensures.lookup.1
    (same_text c.in-Some.next.now.now c.args.word.now c.if-eq.ensures)
