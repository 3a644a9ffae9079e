-- Where the right machine is while it follows the left one: each of its states is related to one of the left, or passed on the way.
use Rattle.std.proofs.Common.{◌≡◌, ◌⊎◌, ◌+◌, ◌-◌, ◌<◌, ◌≤◌, ℕ, zero, suc, nat_lt, Bool, true, false, inl, inr, refl, sym, ◌∙◌, ap, subst, arith}
use Rattle.std.proofs.lemmas.Bool.Decides.{nat_tests}
use Rattle.clif_meaning.specs.Machine.{Machine, Observation, state_after}
use Rattle.clif_meaning.proofs.Stuttering.{state_after-+, steps_from}
use Rattle.clif_simulation.proofs.Finished.Matching.{Followed, FollowsThroughout}

module _ {S T : Type 0} (left : Machine S Observation) (right : Machine T Observation) (Related : S → T → Type 0) (measure : S → ℕ) (Passed : T → Type 0)
    (follows : FollowsThroughout left right Related measure Passed)
  where
    -- how many steps the right machine has made after each step of the left one, and that the states are related then
    abbrev stands : (n : ℕ) → (p : ℕ) × Related (state_after left n) (state_after right p)
    stands zero = (follows.simulates.ahead, follows.simulates.starts)
    stands (suc n) =
        let before = stands n in
        let step = (follows.step (state_after left n) (state_after right before.0) before.1).matched in (
          before.0 + step.steps,
          subst (λ (t : T). Related (state_after left (suc n)) t) (state_after-+ right before.0 step.steps) step.related,
        )

    abbrev step_at : (n : ℕ) → Followed left right Related measure Passed (state_after left n) (state_after right (stands n).0)
    step_at n = follows.step (state_after left n) (state_after right (stands n).0) (stands n).1

    -- the right machine comes by so many steps in this step of the left one
    record ComesBy (j : ℕ) : Type 0 where
      pub n : ℕ
      pub above : (stands n).0 ≤ j
      pub below : j < (stands (suc n)).0

    -- from a step of the left machine on, the first one by which the right machine gets on
    gets_on : (fuel n : ℕ) → measure (state_after left n) < fuel → ComesBy (stands n).0
    gets_on zero n less = absurd (omega (arith, less))
    gets_on (suc fuel) n less = by (λ falls. gets_on fuel (suc n) (omega (arith, falls, less))) (step_at n).matched.steps refl (step_at n).matched.gets_on
      where
        by : (measure (left.next (state_after left n)) < measure (state_after left n) → ComesBy (stands (suc n)).0)
            → (k : ℕ) → (step_at n).matched.steps ≡ k
            → (0 < (step_at n).matched.steps) ⊎ (measure (left.next (state_after left n)) < measure (state_after left n)) → ComesBy (stands n).0
        by later (suc k) is some = record { n = n; above = omega arith; below = omega (arith, is) }
        by later zero is (inl some) = absurd (omega (arith, is, some))
        by later zero is (inr falls) =
            let same : (stands (suc n)).0 ≡ (stands n).0 = omega (arith, is) in
            subst ComesBy same (later falls)

    comes_by : (d : ℕ) → ComesBy (follows.simulates.ahead + d)
    comes_by zero =
        let same : (stands zero).0 ≡ follows.simulates.ahead + 0 = omega arith in
        subst ComesBy same (gets_on (suc (measure (state_after left zero))) zero (omega arith))
    comes_by (suc d) = by (comes_by d)
      where
        by : ComesBy (follows.simulates.ahead + d) → ComesBy (follows.simulates.ahead + suc d)
        by w = test (nat_lt (follows.simulates.ahead + suc d) (stands (suc w.n)).0) refl
          where
            test : (b : Bool) → nat_lt (follows.simulates.ahead + suc d) (stands (suc w.n)).0 ≡ b → ComesBy (follows.simulates.ahead + suc d)
            test true is =
                let less : follows.simulates.ahead + suc d < (stands (suc w.n)).0 = grind (arith, nat_tests) in
                record { n = w.n; above = (let above = w.above in omega (arith, above)); below = less }
            test false is =
                let no_less : (stands (suc w.n)).0 ≤ follows.simulates.ahead + suc d = grind (arith, nat_tests) in
                let below = w.below in
                let same : (stands (suc w.n)).0 ≡ follows.simulates.ahead + suc d = omega (arith, below, no_less) in
                subst ComesBy same (gets_on (suc (measure (state_after left (suc w.n)))) (suc w.n) (omega arith))

    -- each state of the right machine
    pub covered : (j : ℕ) → ((n : ℕ) × Related (state_after left n) (state_after right j)) ⊎ Passed (state_after right j)
    covered j = by (nat_lt j follows.simulates.ahead) refl
      where
        within : ComesBy j → ((n : ℕ) × Related (state_after left n) (state_after right j)) ⊎ Passed (state_after right j)
        within w = test (nat_lt (stands w.n).0 j) refl
          where
            test : (b : Bool) → nat_lt (stands w.n).0 j ≡ b → ((n : ℕ) × Related (state_after left n) (state_after right j)) ⊎ Passed (state_after right j)
            test true is =
                let less : (stands w.n).0 < j = grind (arith, nat_tests) in
                let below = w.below in
                let whole : (stands w.n).0 + (j - (stands w.n).0) ≡ j = omega (arith, less) in
                inr (subst (λ (i : ℕ). Passed (state_after right i)) whole
                (subst Passed (state_after-+ right (stands w.n).0 (j - (stands w.n).0))
                ((step_at w.n).passed (j - (stands w.n).0) (omega (arith, less)) (omega (arith, less, below)))))
            test false is =
                let no_less : j ≤ (stands w.n).0 = grind (arith, nat_tests) in
                let above = w.above in
                let same : (stands w.n).0 ≡ j = omega (arith, no_less, above) in
                inl (w.n, subst (λ (i : ℕ). Related (state_after left w.n) (state_after right i)) same (stands w.n).1)

        by : (b : Bool) → nat_lt j follows.simulates.ahead ≡ b → ((n : ℕ) × Related (state_after left n) (state_after right j)) ⊎ Passed (state_after right j)
        by true is = let less : j < follows.simulates.ahead = grind (arith, nat_tests) in inr (follows.first j less)
        by false is =
            let no_less : follows.simulates.ahead ≤ j = grind (arith, nat_tests) in
            let whole : follows.simulates.ahead + (j - follows.simulates.ahead) ≡ j = omega (arith, no_less) in
            within (subst ComesBy whole (comes_by (j - follows.simulates.ahead)))
