use Rattle.std.proofs.Common.{◌≡◌, ◌∙◌, ◌⊎◌, ℕ, inl, inr, List, sym, subst}
use Rattle.std.specs.Prelude.{◌==◌, Contains}
use Rattle.std.proofs.lemmas.Bool.{eqb-true}
use Rattle.clif_types.specs.EntitySet.{has, with_member}
use Rattle.clif_types.proofs.Marks.{has-with_member}
use Rattle.clif_safepoints.proofs.Paths.{or_cases, stands_from, stands_to}
use Rattle.clif_spiller.specs.Plans.{MayBeSpilled}
use Rattle.benches.proofs.marking.all_values.Goals as goal
use Rattle.benches.proofs.marking.all_values.Goals.{then-fits+in_ok-insert, else-fits}

-- the members of a set with one more
with_member_has : (set : List ℕ) (x v : ℕ) → Contains (with_member set x) v → (x ≡ v) ⊎ Contains set v
with_member_has set x v member =
    elim (or_cases (x == v) (has set v) (sym (has-with_member set x v) ∙ stands_from v (with_member set x) member)) [
      | inl same ↦ inl (eqb-true x v same)
      | inr old ↦ inr (stands_to v set old)
    ]

pub loop-number-preserved : goal.loop-number-preserved
loop-number-preserved c v member =
    elim c.if-fits.branch [
      | then-fits+in_ok-insert w ↦
          let members = subst (λ (xs : List ℕ). Contains xs v) (w.values-is ∙ w.in_ok-insert.ensures.members) member in
          elim (with_member_has c.loop-number.values c.new-value.result v members) [
            | inl same ↦ subst (MayBeSpilled c.args.func.now) same (c.fits.ensures w.if-fits.true)
            | inr before ↦ c.loop-number.invariant v before
          ]
      | else-fits w ↦ c.loop-number.invariant v (subst (λ (xs : List ℕ). Contains xs v) w.values-is member)
    ]
