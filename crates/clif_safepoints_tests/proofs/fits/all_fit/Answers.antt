use Rattle.std.proofs.Common.{◌≡◌, ◌∙◌, ◌⊎◌, ℕ, zero, suc, inl, inr, List, [], ◌∷◌, refl, sym, subst, arith}
use Rattle.std.specs.Prelude.{Contains}
use Rattle.clif_spiller.specs.Plans.{MayBeSpilled}
use Rattle.clif_safepoints_tests.proofs.fits.all_fit.Goals as goal

-- the first one, or one of the rest
first_or_rest : (x v : ℕ) (xs : List ℕ) → Contains (x ∷ xs) v → (x ≡ v) ⊎ Contains xs v
first_or_rest x v xs (zero, inside, at) = inl at
first_or_rest x v xs (suc k, inside, at) = inr (k, omega (arith, inside), at)

pub loop-value-init : goal.loop-value-init
loop-value-init c v member = inr member

pub loop-value-preserved : goal.loop-value-preserved
loop-value-preserved c v member =
    elim (c.loop-value.invariant v member) [
      | inl may ↦ inl may
      | inr ahead ↦
          elim (first_or_rest c.in-Some.value v c.next.new.self (subst (λ (xs : List ℕ). Contains xs v) c.in-Some.ensures.steps ahead)) [
            | inl same ↦ inl (subst (MayBeSpilled c.args.func.now) same (c.if-not-fits.ensures refl))
            | inr rest ↦ inr rest
          ]
    ]

pub returns : goal.returns
returns c is v member =
    elim (c.loop-value.invariant v (subst (λ (xs : List ℕ). Contains xs v) (sym c.iter-members.ensures.all) member)) [
      | inl may ↦ may
      | inr ahead ↦ let none : Contains [] v = subst (λ (xs : List ℕ). Contains xs v) c.in_default.ensures.steps.0 ahead in absurd (omega (arith, none.1))
    ]
