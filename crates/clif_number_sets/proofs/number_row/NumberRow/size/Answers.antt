use Rattle.std.proofs.Common.{length, sym, ap, ◌∙◌}
use Rattle.clif_number_sets.specs.Words.{spread}
use Rattle.clif_number_sets.proofs.Marks.{length-marks}
use Rattle.clif_number_sets.proofs.number_row.NumberRow.size.Goals as goal

pub returns : goal.returns
returns c = sym (ap length (sym c.self.view_is) ∙ length-marks c.self.inside.size (spread c.self.inside.run.first c.self.inside.run.words.items))
