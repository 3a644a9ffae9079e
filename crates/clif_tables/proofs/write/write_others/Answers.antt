use Rattle.std.proofs.Common.{refl, rules, codes, subst}
use Rattle.std.specs.Fmt.{HasWritten}
use Rattle.std.proofs.lemmas.Grind.{put_two}
use Rattle.clif_types.specs.Texts.{signature_text, ext_func_text}
use Rattle.clif_types.specs.Texts.{bytes_text}
use Rattle.clif_tables.specs.Preamble.{other_lines}
use Rattle.clif_tables.proofs.LineByLine.{lines_same}
use Rattle.clif_tables.proofs.write.write_others.Goals as goal

pub returns : goal.returns
returns g c = λ plain ok.
    let took = g.W.Write.write_str_gives in
    let signatures = c.write_lines.ensures signature_text (λ _. refl) plain (search rules) in
    let functions = c.write_lines-2.ensures ext_func_text (λ _. refl) signatures.plain (search rules) in
    let constants = c.write_lines-3.ensures bytes_text (λ _. refl) functions.plain ok in
    let start = c.args.f.now in
    let two = put_two took start c.write_lines.new.f c.write_lines-2.new.f _ _ _
    (lines_same took _ _ (codes "sig") signature_text _ c.tables.inside.signatures c.as_slice.ensures signatures)
    (lines_same took _ _ (codes "fn") ext_func_text _ c.tables.inside.functions c.as_slice-2.ensures functions) refl in
    subst (λ t. HasWritten took start (other_lines t) c.write_lines-3.new.f) c.tables.view_is
    (put_two took start c.write_lines-2.new.f c.write_lines-3.new.f _ _ _ two
    (lines_same took _ _ (codes "const") bytes_text _ c.tables.inside.constants c.as_slice-3.ensures constants) refl)
