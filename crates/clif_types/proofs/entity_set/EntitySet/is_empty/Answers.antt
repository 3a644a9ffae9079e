-- With no mark there is no member, and a set with a mark has the last one as a member.
use Rattle.std.proofs.Common.{◌≡◌, [], arith, ap, ◌∙◌}
use Rattle.std.proofs.lemmas.Grind.{common_steps}
use Rattle.clif_types.specs.EntitySet.{marked_from}
use Rattle.clif_types.proofs.Marks.{no_marks}
use Rattle.clif_types.proofs.entity_set.EntitySet.is_empty.Goals as goal

pub returns : goal.returns
returns g c = (
  λ h.
      let none : c.self.inside.marks.items ≡ [] = grind (arith, common_steps, c.is_empty.ensures, h) in
      rw (← c.self.view_is) (ap (marked_from 0) none),
  λ h.
      let none : c.self.inside.marks.items ≡ [] = no_marks c.self.inside.marks.items 0 c.self.invariant.1 (c.self.view_is ∙ h) in
      rw c.is_empty.ensures (grind (arith, common_steps, none)),
)
