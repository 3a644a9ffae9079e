-- A mark that is set makes its number a member, within the marks and past the last one.
use Rattle.std.proofs.Common.{◌≡◌, false, not, get_or, refl, sym, ap, ◌∙◌, arith, rules}
use Rattle.std.proofs.lemmas.Bool.{both_ways}
use Rattle.clif_types.specs.EntitySet.{has, marked_from}
use Rattle.clif_types.proofs.Marks.{has-marks, has-past, with_member-set, with_member-extended, length-extended, last_is_set-extended, last_is_set-set, get_or-within}
use Rattle.clif_types.proofs.entity_set.EntitySet.insert.Goals as goal

pub invariant_of-self-then-index-len : goal.invariant_of-self-then-index-len
invariant_of-self-then-index-len g c =
    rw c.in_ok-extend.ensures.marks (
      omega (arith, length-extended c.self.inside.marks.items c.index-index.result (omega arith)),
      last_is_set-extended c.self.inside.marks.items c.index-index.result,
    )

pub returns-then-index-len-clause-members : goal.returns-then-index-len-clause-members
returns-then-index-len-clause-members g c =
    ap (marked_from 0) c.in_ok-extend.ensures.marks
    ∙ with_member-extended c.self.inside.marks.items c.index-index.result (omega arith)
    ∙ rw (← c.self.view_is, ← c.index-index.ensures.place) refl

pub returns-then-index-len-clause-added : goal.returns-then-index-len-clause-added
returns-then-index-len-clause-added g c =
    rw (← c.self.view_is, ← c.index-index.ensures.place) (sym (ap not (has-past c.self.inside.marks.items c.index-index.result (omega arith))))

pub invariant_of-self-2 : goal.invariant_of-self-2
invariant_of-self-2 g c = (search rules, last_is_set-set c.self.inside.marks.items c.index-index.result c.self.invariant.1)

pub returns-clause-members : goal.returns-clause-members
returns-clause-members g c =
    with_member-set c.self.inside.marks.items c.index-index.result (omega arith)
    ∙ rw (← c.self.view_is, ← c.index-index.ensures.place) refl

pub returns-clause-added : goal.returns-clause-added
returns-clause-added g c =
    let read : c.index.result.now ≡ get_or c.self.inside.marks.items c.index-index.result false = c.index.ensures ∙ get_or-within c.self.inside.marks.items c.index-index.result c.index.result.now false (omega arith) in
    rw (← c.self.view_is, ← c.index-index.ensures.place) (ap not (read ∙ sym (has-marks c.self.inside.marks.items c.index-index.result)))

pub returns-in_err-extend-clause-known : goal.returns-in_err-extend-clause-known
returns-in_err-extend-clause-known g c =
    λ h.
    let none : has c.args.self.now (g.K.EntityRef.index_of c.args.key) ≡ false = rw (← c.self.view_is, ← c.index-index.ensures.place) (has-past c.self.inside.marks.items c.index-index.result (omega arith)) in
    absurd (both_ways _ none h)
