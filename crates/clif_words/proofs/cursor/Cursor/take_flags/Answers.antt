-- The flags' words, in the order in which they were taken.
use Rattle.std.proofs.Common.{true, ◌∙◌, sym}
use Rattle.std.specs.Prelude.{codes}
use Rattle.clif_words.specs.Cursor.{words_left}
use Rattle.clif_words.proofs.Flags.{flag_taken, notrap_first, aligned_first}
use Rattle.clif_words.proofs.cursor.Cursor.take_flags.Goals as goal

pub returns-then-skips : goal.returns-then-skips
returns-then-skips c =
    let aligned = c.skips-then-skips in
    notrap_first true aligned.result c.flags.result (words_left c.args.self.now) (words_left c.skips.new.self) (words_left aligned.new.self) c.flags.ensures c.if-skips.ensures.yes
    (flag_taken aligned.result (codes "aligned") (words_left c.skips.new.self) (words_left aligned.new.self) aligned.ensures.yes aligned.ensures.no)

pub returns : goal.returns
returns c =
    let aligned = c.skips-aligned in
    let notrap = c.skips-2 in
    aligned_first notrap.result aligned.result c.flags-2.result (words_left c.args.self.now) (words_left aligned.new.self) (words_left notrap.new.self) c.flags-2.ensures
    (sym c.if-skips.ensures.no ∙ flag_taken aligned.result (codes "aligned") (words_left c.skips.new.self) (words_left aligned.new.self) aligned.ensures.yes aligned.ensures.no)
    (flag_taken notrap.result (codes "notrap") (words_left aligned.new.self) (words_left notrap.new.self) notrap.ensures.yes notrap.ensures.no)
