use Rattle.std.proofs.Common.{length, sym, ap, ◌∙◌}
use Rattle.clif_number_sets.proofs.Marks.{length-marks}
use Rattle.clif_number_sets.proofs.number_set.NumberSet.size.Goals as goal

pub returns : goal.returns
returns c = sym (ap length (sym c.self.view_is) ∙ length-marks c.self.inside.size c.self.inside.words.items)
