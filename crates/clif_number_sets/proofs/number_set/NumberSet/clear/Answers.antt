use Rattle.std.proofs.Common.{◌≡◌, ◌∙◌, length, replicate, sym, ap, subst, arith}
use Rattle.std.specs.Vec.{with_items}
use Rattle.std.proofs.lemmas.List.{with_items_is, length-replicate}
use Rattle.clif_number_sets.specs.Words.{LieWithin}
use Rattle.clif_number_sets.proofs.Marks.{length-marks, set-zeros}
use Rattle.clif_number_sets.proofs.number_set.NumberSet.clear.Goals as goal

pub erase-requires : goal.erase-requires
erase-requires c = subst (λ ws. LieWithin c.self.inside.first c.self.inside.end ws) (sym c.as_mut_slice.ensures.value) c.self.invariant.2

pub returns : goal.returns
returns c =
    let words = c.self.inside.words in
    let zeros : c.erase.new.words ≡ replicate (length words.items) 0 = c.erase.ensures ∙ ap (λ ws. replicate (length ws) 0) c.as_mut_slice.ensures.value in
    set-zeros (length c.args.self.now) c.self.inside.size (length words.items) (with_items words c.erase.new.words).items
    (ap length (sym c.self.view_is) ∙ length-marks c.self.inside.size words.items)
    (with_items_is words c.erase.new.words (ap length zeros ∙ length-replicate (length words.items) 0 ∙ omega (arith, words.ok.0)) ∙ zeros)
