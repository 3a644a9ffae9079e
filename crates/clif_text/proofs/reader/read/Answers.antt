use Rattle.std.proofs.Common.{sym, subst}
use Rattle.clif_text.specs.Script.{TellsLine}
use Rattle.clif_text.proofs.Reading.{tells_line}
use Rattle.clif_text.proofs.reader.read.Goals as goal

pub returns-in-Err-clause-line : goal.returns-in-Err-clause-line
returns-in-Err-clause-line c =
    subst (TellsLine c.args.text.now) (sym c.at.ensures)
    (tells_line c.args.text.now c.in-Err.unread.number c.in-Err.unread.line.now c.in-Err.unread.error c.in-Err.ensures.unread)
