use Rattle.std.proofs.Common.{◌<◌, ◌%◌, ◌∙◌, length, sym, ap, arith}
use Rattle.clif_number_sets.specs.Sets.{is_in}
use Rattle.clif_number_sets.specs.Words.{has_bit, spread}
use Rattle.clif_number_sets.proofs.Bits.{read}
use Rattle.clif_number_sets.proofs.Marks.{length-marks, in-marks}
use Rattle.clif_number_sets.proofs.number_row.NumberRow.contains.Goals as goal

pub returns : goal.returns
returns c =
    let words = spread c.self.inside.run.first c.self.inside.run.words.items in
    let below : c.args.place < c.self.inside.size = omega (arith, length-marks c.self.inside.size words, ap length c.self.view_is) in
    read c.word.result (c.args.place % 64) ∙ ap (λ w. has_bit w (c.args.place % 64)) c.word.ensures
    ∙ sym (in-marks c.self.inside.size words c.args.place below) ∙ ap (λ s. is_in s c.args.place) c.self.view_is
