-- One place further in the walk: which values are open then.
use Rattle.std.proofs.Common.{◌≡◌, ◌⊎◌, ◌<◌, ◌≤◌, ◌++◌, inl, inr, ℕ, suc, true, Bool, List, [], ◌∷◌, length, Some, refl, sym, ap, subst, arith}
use Rattle.std.specs.Prelude.{Contains}
use Rattle.std.proofs.lemmas.Bool.{cases_eq}
use Rattle.clif_stack_slots.specs.Sizes.{size_of_type}
use Rattle.clif_stack_slots.specs.declared.size.SlotSize.{SlotSize}
use Rattle.clif_meaning.specs.FunctionView.{FunctionView}
use Rattle.clif_meaning.specs.Path.{IsReachable, Place}
use Rattle.clif_meaning.specs.WellPlaced.{function_flow, placed_at, placed_gives}
use Rattle.clif_spilling_laws.specs.Live.{IsLiveBefore, place_at}
use Rattle.clif_spilling_laws.proofs.Basics.Lists.{contains_first, contains_more}
use Rattle.clif_spilling_laws.proofs.Liveness.Reached.{in_reached}
use Rattle.clif_spiller.specs.Allocating.{AreNeeded, ComesBefore, Distinct, IsEarlier, IsHandled, IsKeptOpen, IsOpen, IsWalk, every}
use Rattle.clif_spiller.proofs.Allocating.Covering.{handled_cases, handled_more}
use Rattle.clif_spiller.proofs.Allocating.Lists.{distinct_once}
use Rattle.clif_spiller.proofs.Allocating.Orders.{comes_done, comes_here, done_comes, not_done}
use Rattle.clif_spiller.proofs.Allocating.Places.{gives_inside}

module _ (function : FunctionView) (count : ℕ) (is_spilled : ℕ → Bool) (order done : List ℕ) (block : ℕ) (rest : List ℕ)
    (walk : IsWalk function count is_spilled order) (split : order ≡ done ++ block ∷ rest)
    (k : ℕ) (inside : k < length (function.blocks block).items) where
  abbrev p : Place ℕ
  p = place_at block k

  abbrev gives : List ℕ
  gives = placed_gives (placed_at function p)

  fresh : Contains done block → ⊥
  fresh = not_done order done block rest split walk.ordered.once

  pub reached : IsReachable (function_flow function) p
  reached = in_reached function block ((walk.ordered.reached block).0 (subst (λ xs. Contains xs block) (sym split) (in_middle done))) k inside
    where
      in_middle : (xs : List ℕ) → Contains (xs ++ block ∷ rest) block
      in_middle [] = contains_first block rest
      in_middle (x ∷ xs) = contains_more x block (xs ++ block ∷ rest) (in_middle xs)

  -- OPEN ----------------------------------------------------------------------------------------------------------------

  -- what is open still is open at the place by the walk's order
  is_open : (v : ℕ) → IsKeptOpen function order done block k v → IsOpen function order p v
  is_open v kept = record {
    since = kept.since;
    earlier = by kept.handled.1;
    live = kept.live;
    no_result = λ q after which gives. kept.no_result q (handled q which (gives_inside function q v gives)) after gives;
    no_parameter = λ b after before parameter. kept.no_parameter b (comes_here order done block rest split walk.ordered.once b before) after parameter;
  }
    where
      by : Contains done kept.since.block ⊎ ((kept.since.block ≡ block) × (k ≤ kept.since.index)) → (kept.since ≡ p) ⊎ IsEarlier order kept.since p
      by (inl member) = inr (inl (done_comes order done block rest split walk.ordered.once kept.since.block member))
      by (inr same) =
          elim (cases_eq kept.since.index k) [
            | inl index ↦ inl (λ i. record { block = same.0 i; index = index i })
            | inr other ↦ inr (inr (same.0, (let below = same.1 in omega (arith, below, other))))
          ]

      handled : (q : Place ℕ) → (q ≡ p) ⊎ IsEarlier order q p → q.index < length (function.blocks q.block).items → IsHandled function done block k q
      handled q (inl same) within = (within, inr (ap (λ (r : Place ℕ). r.block) same, (let index : q.index ≡ k = ap (λ (r : Place ℕ). r.index) same in omega (arith, index))))
      handled q (inr (inl comes)) within = (within, inl (comes_here order done block rest split walk.ordered.once q.block comes))
      handled q (inr (inr behind)) within = (within, inr (behind.0, (let below = behind.1 in omega (arith, below))))

  -- what was open and isn't given at the place, or is live before it
  abbrev pub OpenThen : ℕ → Type 0
  OpenThen v = (IsKeptOpen function order done block (suc k) v × (Contains gives v → ⊥)) ⊎ IsLiveBefore every function p v

  -- nothing that is handled comes after the place
  not_after : (q : Place ℕ) → IsHandled function done block k q → IsEarlier order p q → ⊥
  not_after q handled after = by handled.1 after
    where
      by : Contains done q.block ⊎ ((q.block ≡ block) × (k ≤ q.index)) → IsEarlier order p q → ⊥
      by (inl member) (inl comes) = fresh (comes_done order done block rest split walk.ordered.once block q.block comes member)
      by (inl member) (inr behind) = fresh (subst (λ b. Contains done b) (sym behind.0) member)
      by (inr same) (inl comes) =
          fresh (comes_here order done block rest split walk.ordered.once block (subst (λ b. ComesBefore order block b) same.0 comes))
      by (inr same) (inr behind) = let low = same.1 in let high = behind.1 in omega (arith, low, high)

  pub kept_open : (v : ℕ) → OpenThen v → IsKeptOpen function order done block k v
  kept_open v (inl was) = record {
    since = was.0.since;
    handled = handled_more function done block k was.0.since was.0.handled;
    live = was.0.live;
    no_result = λ q handled after given.
        elim (handled_cases function done block k q handled) [
          | inl new ↦ was.1 (subst (λ (r : Place ℕ). Contains (placed_gives (placed_at function r)) v) new given)
          | inr old ↦ was.0.no_result q old after given
        ];
    no_parameter = was.0.no_parameter;
  }
  kept_open v (inr live) = record {
    since = p;
    handled = (inside, inr (refl, omega arith));
    live = live;
    no_result = λ q handled after given. not_after q handled after;
    no_parameter = λ b member after parameter.
        elim after [
          | inl same ↦ fresh (subst (λ c. Contains done c) same member)
          | inr comes ↦ fresh (comes_done order done block rest split walk.ordered.once block b comes member)
        ];
  }

  -- different values that are open then are so many as are told
  pub enough : (size : SlotSize) (values : List ℕ) → Distinct values
      → ((v : ℕ) → Contains values v → OpenThen v × (is_spilled v ≡ true) × (size_of_type (function.value_type v) ≡ Some size))
      → AreNeeded function is_spilled order size (length values)
  enough of values distinct each_is = inr (record {
    place = p;
    reached = reached;
    values = values;
    once = distinct_once values distinct;
    many = refl;
    spilled = λ v h. (each_is v h).1;
    sized = λ v h. (each_is v h).2;
    are_open = λ v h. is_open v (kept_open v (each_is v h).0);
  })
