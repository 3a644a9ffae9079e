-- The mark at the number is read, or the number is past the last mark.
use Rattle.std.proofs.Common.{◌≡◌, false, get_or, sym, ◌∙◌, rules}
use Rattle.clif_types.proofs.Marks.{has-marks}
use Rattle.clif_types.proofs.entity_set.EntitySet.contains.Goals as goal

pub returns : goal.returns
returns g c =
    let read : c.unwrap_or.result ≡ get_or c.self.inside.marks.items c.index.result false = search rules in
    rw (← c.self.view_is, ← c.index.ensures.place) (read ∙ sym (has-marks c.self.inside.marks.items c.index.result))
