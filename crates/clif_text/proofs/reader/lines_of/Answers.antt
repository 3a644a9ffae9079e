use Rattle.std.proofs.Common.{lit<, ap, ◌∙◌}
use Rattle.std.proofs.lemmas.Iterator.Consumers.{YieldsList-end}
use Rattle.std.proofs.lemmas.Iterator.Splits.{YieldsList-from_str_split}
use Rattle.clif_words.specs.Cursor.{texts}
use Rattle.clif_text.proofs.reader.lines_of.Goals as goal

pub returns : goal.returns
returns c =
    let ended = YieldsList-end (YieldsList-from_str_split 10 c.args.text.now (lit< tt) (cc) (cc) (cc)) c.loop-line.yielded _ c.loop-line.yielded_by _ _ c.in-None.is c.next.ensures.steps in
    ap texts c.loop-line.invariant ∙ ended.0
