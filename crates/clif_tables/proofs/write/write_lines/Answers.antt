use Rattle.std.proofs.Common.{◌≡◌, ℕ, ◌+◌, List, ◌++◌, take, rules, arith, ap, subst, ◌∙◌}
use Rattle.std.specs.Fmt.{HasWritten, decimal}
use Rattle.std.proofs.lemmas.Grind.{put_two}
use Rattle.std.proofs.lemmas.List.{take_all}
use Rattle.clif_tables.specs.Preamble.{line, lines}
use Rattle.clif_tables.proofs.LineByLine.{one_line_more}
use Rattle.clif_tables.proofs.write.write_lines.Goals as goal

pub loop-number-preserved : goal.loop-number-preserved
loop-number-preserved g c = λ text texts plain.
    let number : ℕ = c.loop-number.number in
    let kind : List ℕ = c.args.kind.now in
    let entries : List g.row.V.Denot = c.args.entries.now in
    let entry : g.row.V.Denot = c.index-entries-number.result in
    let before = c.loop-number.invariant text texts plain in
    let written = c.write_line.ensures (text entry) (texts entry) before.plain (search rules) in
    let whole : lines kind text (take number entries) ++ line (kind ++ decimal number) (text entry) ≡ lines kind text (take (number + 1) entries) =
    ap (λ e. lines kind text (take number entries) ++ line (kind ++ decimal number) (text e)) c.index-entries-number.is
    ∙ one_line_more kind text entries number entry (omega (arith, c.loop-number-test.true)) in
    put_two g.W.Write.write_str_gives c.args.f.now c.loop-number.f c.write_line.new.f _ _ _ before written whole

pub returns : goal.returns
returns g c = λ text texts plain ok.
    subst (λ entries. HasWritten g.W.Write.write_str_gives c.args.f.now (lines c.args.kind.now text entries) c.loop-number.f) (take_all c.loop-number.number c.args.entries.now (omega (arith, c.loop-number-test.false)))
    (c.loop-number.invariant text texts plain)
