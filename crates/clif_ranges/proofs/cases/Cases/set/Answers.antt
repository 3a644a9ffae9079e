use Rattle.std.proofs.Common.{◌≡◌, sym, ◌∙◌, subst, refl, Bool, true, false}
use Rattle.std.specs.Prelude.{IsTrue}
use Rattle.std.specs.FinMap as map
use Rattle.clif_ranges.proofs.CaseMaps.{has_case, case_put}
use Rattle.clif_ranges.proofs.cases.Cases.set.Goals as goal
use Rattle.clif_ranges.proofs.cases.Cases.set.Goals.{in-Ok, in-Err}

no_case : (c : goal.Joined-insert) → IsTrue (map.contains_key c.args.self.now c.args.key) → ⊥
no_case c has =
    other (subst (λ cases. IsTrue (map.contains_key cases c.args.key)) (sym c.self.view_is) has) (has_case c.self.inside.blocks c.args.key ∙ sym c.if-contains_key.ensures)
  where
    other : {b : Bool} → b ≡ true → b ≡ false → ⊥
    other there none = cc

pub returns-then-contains_key-clause-twice : goal.returns-then-contains_key-clause-twice
returns-then-contains_key-clause-twice c =
    (λ is. rw (← c.self.view_is) (rw (has_case c.self.inside.blocks c.args.key) (sym c.if-contains_key.ensures)), λ has. refl)

pub returns-clause-ok : goal.returns-clause-ok
returns-clause-ok c =
    elim c.match-insert.branch [
      | in-Ok w ↦ rw (w.result-is) (rw (← c.self.view_is) (case_put c.self.inside.blocks c.insert.new.self c.args.key c.args.block w.in-Ok.ensures.updates.0))
      | in-Err w ↦ rw (w.result-is) tt
    ]

pub returns-clause-twice : goal.returns-clause-twice
returns-clause-twice c =
    elim c.match-insert.branch [
      | in-Ok w ↦ (λ is. let result = w.result-is in cc, λ has. absurd (no_case c has))
      | in-Err w ↦ (λ is. let result = w.result-is in cc, λ has. absurd (no_case c has))
    ]
