-- Coverage: what is spilled and live beside a place that was handled has a slot.
use Rattle.std.proofs.Common.{◌≡◌, ◌⊎◌, ◌<◌, ◌≤◌, ◌∙◌, inl, inr, ℕ, suc, true, Bool, List, [], ◌∷◌, ◌++◌, length, map as each, Option, None, Some, sym, ap, subst, arith}
use Rattle.std.specs.Prelude.{Contains, slice_get}
use Rattle.std.proofs.lemmas.Bool.{cases_eq}
use Rattle.clif_stack_slots.specs.Sizes.{size_of_type}
use Rattle.clif_stack_slots.specs.declared.size.SlotSize.{SlotSize}
use Rattle.clif_meaning.specs.FunctionView.{FunctionView, Placed}
use Rattle.clif_meaning.specs.Path.{Leads, Place}
use Rattle.clif_meaning.specs.WellPlaced.{function_code, function_flow, given_on_entry, placed_at, placed_gives, placed_targets}
use Rattle.clif_safepoints.specs.Liveness.{IsPassed, IsUsedAhead, used_operands}
use Rattle.clif_spilling_laws.specs.Live.{IsLiveAfter, IsLiveBefore, counted, place_at}
use Rattle.clif_spilling_laws.proofs.Basics.Lists.{contains_none}
use Rattle.clif_spiller.specs.Allocating.{ActsAt, Gives, IsAssigned, IsHandled, IsLiveBeside, IsWalk, Needs, SlotAct, SlotState, after_acts, every}
use Rattle.clif_spiller.proofs.Allocating.States.{acts_append, needs_assign, still_assigned}
use Rattle.clif_spiller.proofs.Sizes.{size_of}

-- at the front of a block without instructions nothing is live
pub none_live : (function : FunctionView) (b v : ℕ) → (function.blocks b).items ≡ [] → IsLiveBefore every function (place_at b 0) v → ⊥
none_live function b v none live =
    by live
  where
    nothing : placed_at function (place_at b 0) ≡ None
    nothing = ap (λ items. slice_get items 0) none

    ahead : (path : List (Place ℕ)) → IsUsedAhead (counted every) function v (place_at b 0) path → ⊥
    ahead [] passed = subst (IsPassed (counted every) function.resolved v) nothing passed
    ahead (q ∷ path) used = leads used.0
      where
        leads : Leads (function_flow function) (place_at b 0) q → ⊥
        leads (inl next) =
            let inside : q.index < length (function.blocks b).items = subst (λ (c : ℕ). q.index < length (function.blocks c).items) next.0 next.2 in
            let long : length (function.blocks b).items ≡ 0 = ap length none in
            omega (arith, inside, long)
        leads (inr edge) = contains_none q.block (subst (λ (found : Option Placed). Contains (placed_targets found) q.block) nothing edge.0)

    by : IsLiveBefore every function (place_at b 0) v → ⊥
    by (inl used) = contains_none v (subst (λ (found : Option Placed). Contains (used_operands function.resolved found) v) nothing used)
    by (inr across) = ahead across.1 across.2

-- a place that is handled is the newest one, or was handled
pub handled_cases : (function : FunctionView) (done : List ℕ) (block k : ℕ) (q : Place ℕ) → IsHandled function done block k q
    → (q ≡ place_at block k) ⊎ IsHandled function done block (suc k) q
handled_cases function done block k q handled = by handled.1
  where
    by : Contains done q.block ⊎ ((q.block ≡ block) × (k ≤ q.index)) → (q ≡ place_at block k) ⊎ IsHandled function done block (suc k) q
    by (inl member) = inr (handled.0, inl member)
    by (inr same) =
        elim (cases_eq q.index k) [
          | inl index ↦ inl (λ i. record { block = same.0 i; index = index i })
          | inr other ↦ inr (handled.0, inr (same.0, (let below = same.1 in omega (arith, below, other))))
        ]

pub handled_more : (function : FunctionView) (done : List ℕ) (block k : ℕ) (q : Place ℕ) → IsHandled function done block (suc k) q → IsHandled function done block k q
handled_more function done block k q handled = (
  handled.0,
  elim handled.1 [ inl member ↦ inl member | inr same ↦ inr (same.0, (let below = same.1 in omega (arith, below))) ],
)

module _ (function : FunctionView) (count : ℕ) (is_spilled : ℕ → Bool) (order : List ℕ) (walk : IsWalk function count is_spilled order)
    (done : List ℕ) (block k : ℕ) (inside : k < length (function.blocks block).items) (st : SlotState)
    (covers : (p : Place ℕ) (v : ℕ) → IsHandled function done block (suc k) p → is_spilled v ≡ true → IsLiveBeside function p v → IsAssigned st v)
    (list : List SlotAct) (acts : ActsAt function is_spilled st (place_at block k) list) where
  abbrev pub here : Place ℕ
  here = place_at block k

  abbrev pub given_here : List ℕ
  given_here = placed_gives (placed_at function here)

  abbrev pub after_outs : SlotState
  after_outs = after_acts function.value_type (each Needs acts.outs) st

  abbrev pub after_gives : SlotState
  after_gives = after_acts function.value_type (each Gives given_here) after_outs

  abbrev pub after_uses : SlotState
  after_uses = after_acts function.value_type (each Needs acts.uses) after_gives

  -- a spilled value fits
  pub sized : (v : ℕ) → is_spilled v ≡ true → (size : SlotSize) × (size_of_type (function.value_type v) ≡ Some size)
  sized v spilled = size_of (function.value_type v) (walk.fits v spilled)

  gives_are : after_acts function.value_type (each Needs acts.outs ++ each Gives given_here) st ≡ after_gives
  gives_are = acts_append function.value_type (each Needs acts.outs) (each Gives given_here) st

  pub uses_are : after_acts function.value_type list st ≡ after_uses
  uses_are =
      ap (λ acts. after_acts function.value_type acts st) acts.acts_are
      ∙ acts_append function.value_type (each Needs acts.outs ++ each Gives given_here) (each Needs acts.uses) st
      ∙ ap (after_acts function.value_type (each Needs acts.uses)) gives_are

  -- what is used ahead is passed by the edges, or has a slot once what lives on elsewhere has
  ahead : (v : ℕ) → is_spilled v ≡ true → (path : List (Place ℕ)) → IsUsedAhead (counted every) function v here path
      → IsPassed (counted every) function.resolved v (placed_at function here) ⊎ IsAssigned after_outs v
  ahead v spilled [] passed = inl passed
  ahead v spilled (q ∷ path) used = inr (leads used.0)
    where
      live : Contains (used_operands function.resolved (placed_at function q)) v
          ⊎ ((¬ Contains (placed_gives (placed_at function q)) v) × IsUsedAhead (counted every) function v q path) → IsLiveBefore every function q v
      live (inl operand) = inl operand
      live (inr on) = inr (on.0, path, on.1)

      leads : Leads (function_flow function) here q → IsAssigned after_outs v
      leads (inl next) =
          let handled : IsHandled function done block (suc k) q = (next.2, inr (next.0, (let on = next.1 in omega (arith, on)))) in
          still_assigned function.value_type (each Needs acts.outs) st v (covers q v handled spilled (inl (live used.2)))
      leads (inr edge) =
          let index : q.index ≡ 0 = edge.1.0 in
          let front : q ≡ place_at q.block 0 = λ i. record { block = q.block; index = index i } in
          let none : Contains (function.blocks q.block).parameters v → ⊥ =
          λ h. used.1 (subst (λ (n : ℕ). Contains (given_on_entry (function_code function) q.block n) v) (sym index) h) in
          elim (acts.outs_all v q.block spilled edge.0 (subst (λ (p : Place ℕ). IsLiveBefore every function p v) front (live used.2)) none) [
            | inl out ↦ needs_assign function.value_type acts.outs st (λ w h. sized w (acts.outs_live w h).0) v out
            | inr has ↦ still_assigned function.value_type (each Needs acts.outs) st v has
          ]

  -- What is live after the place, and isn't passed by its edges, has a slot before its results are given.
  pub covers_out : (v : ℕ) → is_spilled v ≡ true → IsLiveAfter every function here v
      → (IsPassed (counted every) function.resolved v (placed_at function here) → ⊥) → IsAssigned after_outs v
  covers_out v spilled live none = elim (ahead v spilled live.0 live.1) [ inl passed ↦ absurd (none passed) | inr has ↦ has ]

  on : (v : ℕ) → IsAssigned after_outs v → IsAssigned after_uses v
  on v has = still_assigned function.value_type (each Needs acts.uses) after_gives v (still_assigned function.value_type (each Gives given_here) after_outs v has)

  used : (v : ℕ) → is_spilled v ≡ true
      → Contains (used_operands function.resolved (placed_at function here)) v ⊎ IsPassed (counted every) function.resolved v (placed_at function here)
      → IsAssigned after_uses v
  used v spilled how =
      elim (acts.uses_all v spilled how) [
        | inl member ↦ needs_assign function.value_type acts.uses after_gives (λ w h. sized w (acts.uses_live w h).0) v member
        | inr has ↦ still_assigned function.value_type (each Needs acts.uses) after_gives v (subst (λ (new : SlotState). IsAssigned new v) gives_are has)
      ]

  live_after : (v : ℕ) → is_spilled v ≡ true → IsLiveAfter every function here v → IsAssigned after_uses v
  live_after v spilled live = elim (ahead v spilled live.0 live.1) [ inl passed ↦ used v spilled (inr passed) | inr has ↦ on v has ]

  live_beside : (v : ℕ) → is_spilled v ≡ true → IsLiveBeside function here v → IsAssigned after_uses v
  live_beside v spilled (inl (inl operand)) = used v spilled (inl operand)
  live_beside v spilled (inl (inr across)) = live_after v spilled (across.1, across.2)
  live_beside v spilled (inr live) = live_after v spilled live

  pub covers_then : (p : Place ℕ) (v : ℕ) → IsHandled function done block k p → is_spilled v ≡ true → IsLiveBeside function p v → IsAssigned after_uses v
  covers_then p v handled spilled live =
      elim (handled_cases function done block k p handled) [
        | inl new ↦ live_beside v spilled (subst (λ (q : Place ℕ). IsLiveBeside function q v) new live)
        | inr old ↦ on v (still_assigned function.value_type (each Needs acts.outs) st v (covers p v old spilled live))
      ]
