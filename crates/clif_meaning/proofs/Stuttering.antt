-- The stuttering simulation: a relation between the states of two machines that every step of the left one keeps, by
-- any number of steps of the right one, gives the same meaning.
use Rattle.std.proofs.Common.{◌≡◌, ◌+◌, ◌<◌, ◌≤◌, ◌-◌, ℕ, zero, suc, sym, ◌∙◌, ap, arith, ◌⊎◌, inl, inr, add-one, subst}
use Rattle.clif_meaning.specs.Machine.{Machine, Observation, state_after, observed}
use Rattle.clif_meaning.specs.SameMeaning.{SameMeaning, KeepsUp}
use Rattle.clif_meaning.proofs.Simulation

-- this many steps from a state on
abbrev pub steps_from : {State : Type 0} → Machine State Observation → ℕ → State → State
steps_from machine zero state = state
steps_from machine (suc n) state = machine.next (steps_from machine n state)

-- what some steps of the right machine show is what it showed before them or after all of them
abbrev pub ShowsOnlyEnds : {State : Type 0} → Machine State Observation → ℕ → State → Type 0
ShowsOnlyEnds machine steps state =
    (j : ℕ) → j ≤ steps
    → (machine.shown (steps_from machine j state) ≡ machine.shown state)
    ⊎ (machine.shown (steps_from machine j state) ≡ machine.shown (steps_from machine steps state))

-- one step of the left machine is matched by some steps of the right one, and if by none a measure falls
pub record Matched {S T : Type 0} (left : Machine S Observation) (right : Machine T Observation) (Related : S → T → Type 0) (measure : S → ℕ) (s : S) (t : T) : Type 0 where
  pub steps : ℕ
  pub related : Related (left.next s) (steps_from right steps t)
  pub quiet : ShowsOnlyEnds right steps t
  pub gets_on : (0 < steps) ⊎ (measure (left.next s) < measure s)

-- the right machine simulates the left one, after some steps of its own at first, which show nothing new
pub record Simulates {S T : Type 0} (left : Machine S Observation) (right : Machine T Observation) (Related : S → T → Type 0) (measure : S → ℕ) : Type 0 where
  pub ahead : ℕ
  pub at_first : (j : ℕ) → j ≤ ahead → observed right j ≡ observed left 0
  pub starts : Related left.start (state_after right ahead)
  pub shows : (s : S) (t : T) → Related s t → left.shown s ≡ right.shown t
  pub step : (s : S) (t : T) → Related s t → Matched left right Related measure s t

-- what holds at the start and is kept by each step holds of all states
pub always : {State : Type 0} (machine : Machine State Observation) (P : State → Type 0)
    → P machine.start → ((state : State) → P state → P (machine.next state)) → (n : ℕ) → P (state_after machine n)
always machine P start keeps zero = start
always machine P start keeps (suc n) = keeps (state_after machine n) (always machine P start keeps n)

-- steps after steps
pub state_after-+ : {State : Type 0} (machine : Machine State Observation) (p k : ℕ)
    → steps_from machine k (state_after machine p) ≡ state_after machine (p + k)
state_after-+ machine p zero = ap (λ (n : ℕ). state_after machine n) (omega arith)
state_after-+ machine p (suc k) =
    ap machine.next (state_after-+ machine p k) ∙ ap (λ (n : ℕ). state_after machine n) (more p k)
  where
    more : (p k : ℕ) → suc (p + k) ≡ p + suc k
    more p k = omega arith

module _ {S T : Type 0} (left : Machine S Observation) (right : Machine T Observation) (Related : S → T → Type 0) (measure : S → ℕ) (sim : Simulates left right Related measure) where
  -- where the right machine stands after each step of the left, and that the states are related there
  abbrev stands : (n : ℕ) → (p : ℕ) × Related (state_after left n) (state_after right p)
  stands zero = (sim.ahead, sim.starts)
  stands (suc n) =
      let before = stands n in
      let step = sim.step (state_after left n) (state_after right before.0) before.1 in (
        before.0 + step.steps,
        subst (λ (t : T). Related (state_after left (suc n)) t) (state_after-+ right before.0 step.steps) step.related,
      )

  abbrev step_at : (n : ℕ) → Matched left right Related measure (state_after left n) (state_after right (stands n).0)
  step_at n = sim.step (state_after left n) (state_after right (stands n).0) (stands n).1

  goes_on : (n : ℕ) → (stands n).0 ≤ (stands (suc n)).0
  goes_on n = omega arith

  between : (n k : ℕ) → k ≤ (step_at n).steps
      → (observed right ((stands n).0 + k) ≡ observed right (stands n).0) ⊎ (observed right ((stands n).0 + k) ≡ observed right (stands (suc n)).0)
  between n k h = by ((step_at n).quiet k h)
    where
      p : ℕ
      p = (stands n).0

      after : (m : ℕ) → right.shown (steps_from right m (state_after right p)) ≡ observed right (p + m)
      after m = ap right.shown (state_after-+ right p m)

      by : (right.shown (steps_from right k (state_after right p)) ≡ observed right p)
          ⊎ (right.shown (steps_from right k (state_after right p)) ≡ right.shown (steps_from right (step_at n).steps (state_after right p)))
          → (observed right (p + k) ≡ observed right p) ⊎ (observed right (p + k) ≡ observed right (p + (step_at n).steps))
      by (inl before) = inl (sym (after k) ∙ before)
      by (inr behind) = inr (sym (after k) ∙ behind ∙ after (step_at n).steps)

  between_places : (n j : ℕ) → (stands n).0 ≤ j → j ≤ (stands (suc n)).0
      → (observed right j ≡ observed right (stands n).0) ⊎ (observed right j ≡ observed right (stands (suc n)).0)
  between_places n j above below =
      let whole : (stands n).0 + (j - (stands n).0) ≡ j = omega arith in
      subst (λ (i : ℕ). (observed right i ≡ observed right (stands n).0) ⊎ (observed right i ≡ observed right (stands (suc n)).0)) whole
      (between n (j - (stands n).0) (omega arith))

  gets_on : (n : ℕ) → ((stands n).0 < (stands (suc n)).0) ⊎ (measure (state_after left (suc n)) < measure (state_after left n))
  gets_on n = by (step_at n).gets_on
    where
      by : (0 < (step_at n).steps) ⊎ (measure (left.next (state_after left n)) < measure (state_after left n))
          → ((stands n).0 < (stands (suc n)).0) ⊎ (measure (state_after left (suc n)) < measure (state_after left n))
      by (inl some) = inl (omega arith)
      by (inr fallen) = inr fallen

  keeps_up : KeepsUp (observed left) (observed right) (λ n. (stands n).0) (λ n. measure (state_after left n))
  keeps_up = record {
    at_first = sim.at_first;
    shows = λ n. sim.shows (state_after left n) (state_after right (stands n).0) (stands n).1;
    goes_on = λ n. rw add-one (goes_on n);
    between = λ n. rw add-one (between_places n);
    gets_on = λ n. rw add-one (gets_on n);
  }

  pub same_meaning : SameMeaning (observed left) (observed right)
  same_meaning = Simulation.same_meaning (observed left) (observed right) (λ n. (stands n).0) (λ n. measure (state_after left n)) keeps_up
