use Rattle.std.proofs.Common.{refl, ap, ◌∙◌, arith}
use Rattle.clif_words.specs.Cursor.{texts}
use Rattle.clif_text.specs.Reader.{said_to}
use Rattle.clif_text.proofs.Reading.{is_unread_line, lines_more, lines_count, numbered, line_here}
use Rattle.clif_text.proofs.reader.read_lines.Goals as goal

pub loop-index-preserved : goal.loop-index-preserved
loop-index-preserved c =
    let lines = c.deref-line-items.result.now in
    let all = ap texts c.deref-line-items.ensures.value ∙ c.in-Ok.ensures in
    let adds = c.in_default-line.ensures.ok c.loop-index.invariant.0 in (
      adds.0,
      lines_more c.args.text.now _ c.loop-index.index (said_to c.loop-index.reader) (said_to c.line.new.self)
          (omega (arith, lines_count c.args.text.now lines all, c.loop-index-test.true))
          (line_here c.args.text.now lines c.loop-index.index _ all refl)
          c.loop-index.invariant.1
          adds.1,
    )

pub returns-in-Err-clause-unread : goal.returns-in-Err-clause-unread
returns-in-Err-clause-unread c =
    let text = c.args.text.now in
    let lines = c.deref-line-items.result.now in
    let all = ap texts c.deref-line-items.ensures.value ∙ c.in-Ok.ensures in
    is_unread_line text _ c.loop-index.index c.in-Err.error (said_to c.loop-index.reader)
    (numbered text lines c.loop-index.index all c.loop-index-test.true)
    (line_here text lines c.loop-index.index _ all refl)
    c.loop-index.invariant.1
    c.in-Err.ensures.err
