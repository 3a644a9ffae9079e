use Rattle.std.proofs.Common.{◌≡◌, ◌<◌, ◌/◌, ◌%◌, ◌∙◌, length, get_or, sym, ap, arith}
use Rattle.std.proofs.lemmas.List.{get_or_read}
use Rattle.clif_number_sets.specs.Sets.{is_in}
use Rattle.clif_number_sets.specs.Words.{has_bit}
use Rattle.clif_number_sets.proofs.Bits.{read}
use Rattle.clif_number_sets.proofs.Marks.{length-marks, in-marks}
use Rattle.clif_number_sets.proofs.number_set.NumberSet.contains.Goals as goal

pub index-requires : goal.index-requires
index-requires c =
    omega (arith, length-marks c.self.inside.size c.self.inside.words.items, ap length c.self.view_is, c.self.invariant.0, c.self.inside.words.ok.0)

pub returns : goal.returns
returns c =
    let words = c.self.inside.words.items in
    let below : c.args.place < c.self.inside.size = omega (arith, length-marks c.self.inside.size words, ap length c.self.view_is) in
    let word : c.index.result.now ≡ get_or words (c.args.place / 64) 0 =
    get_or_read words (c.args.place / 64) _ (omega (arith, c.self.invariant.0)) c.index.ensures 0 in
    read c.index.result.now (c.args.place % 64) ∙ ap (λ w. has_bit w (c.args.place % 64)) word
    ∙ sym (in-marks c.self.inside.size words c.args.place below) ∙ ap (λ s. is_in s c.args.place) c.self.view_is
