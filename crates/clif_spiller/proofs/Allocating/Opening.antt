-- In a well placed function what is live at a place isn't closed as the walk comes there: its definition stands before the place on each
-- path, and so in the walk after it.
use Rattle.std.proofs.Common.{◌≡◌, ◌⊎◌, ◌<◌, ◌≤◌, inl, inr, ℕ, zero, suc, Bool, List, [], ◌∷◌, ◌++◌, length, refl, ap, subst, arith}
use Rattle.std.specs.Prelude.{Contains}
use Rattle.clif_meaning.specs.FunctionView.{FunctionView}
use Rattle.clif_meaning.specs.Path.{IsPath, IsReachable, Place}
use Rattle.clif_meaning.specs.WellPlaced.{IsGivenAlong, WellPlaced, function_code, function_flow, given_on_entry, placed_at, placed_gives}
use Rattle.clif_spilling_laws.specs.GivesOnce.{GivesOnce}
use Rattle.clif_spilling_laws.specs.Live.{IsLiveAfter, IsLiveBefore, place_at}
use Rattle.clif_spilling_laws.proofs.Basics.Lists.{contains_cases, contains_first, contains_more, contains_none}
use Rattle.clif_spilling_laws.proofs.Liveness.LivePaths.{live_is_given, used_is_given}
use Rattle.clif_spiller.specs.Allocating.{IsClosed, IsWalk, every}
use Rattle.clif_spiller.proofs.Allocating.Orders.{dominator_not_done}
use Rattle.clif_spiller.proofs.Allocating.Places.{dominates, never_twice}

module _ (function : FunctionView) (count : ℕ) (once : GivesOnce function count) (v : ℕ) where
  abbrev IsGiven : List (Place ℕ) → Type 0
  IsGiven path = IsGivenAlong (function_code function) v path

  entered_parameter : (b k : ℕ) → Contains (given_on_entry (function_code function) b k) v → Contains (function.blocks b).parameters v
  entered_parameter b zero h = h
  entered_parameter b (suc k) h = absurd (contains_none v h)

  is_entered : (p : Place ℕ) → Contains (given_on_entry (function_code function) p.block p.index) v → Contains (function.blocks p.block).parameters v
  is_entered p h = entered_parameter p.block p.index h

  -- a path along which a parameter is given passes its block
  passes_block : (b : ℕ) → Contains (function.blocks b).parameters v → (path : List (Place ℕ)) → IsGiven path → (q : Place ℕ) × Contains path q × (q.block ≡ b)
  passes_block b is [] given = absurd given
  passes_block b is (p ∷ path) (inl result) = absurd (once.apart b p v is result)
  passes_block b is (p ∷ path) (inr (inl entered)) = (p, contains_first p path, once.one_block p.block b v (is_entered p entered) is)
  passes_block b is (p ∷ path) (inr (inr more)) = let found = passes_block b is path more in (found.0, contains_more p found.0 path found.1, found.2)

  -- and one along which a result is given passes its place
  passes_place : (d : Place ℕ) → Contains (placed_gives (placed_at function d)) v → (path : List (Place ℕ)) → IsGiven path → Contains path d
  passes_place d is [] given = absurd given
  passes_place d is (p ∷ path) (inl result) = subst (λ (q : Place ℕ). Contains (p ∷ path) q) (once.one_place p d v result is) (contains_first p path)
  passes_place d is (p ∷ path) (inr (inl entered)) = absurd (once.apart p.block d v (is_entered p entered) is)
  passes_place d is (p ∷ path) (inr (inr more)) = contains_more p d path (passes_place d is path more)

module _ (function : FunctionView) (count : ℕ) (is_spilled : ℕ → Bool) (order done : List ℕ) (block : ℕ) (rest : List ℕ)
    (walk : IsWalk function count is_spilled order) (split : order ≡ done ++ block ∷ rest)
    (k : ℕ) (inside : k < length (function.blocks block).items) (v : ℕ) where
  abbrev Walks : List (Place ℕ) → Type 0
  Walks path = IsPath (function_flow function) path

  not_in_done : (b : ℕ) → Contains done b → ((path : List (Place ℕ)) → Walks (place_at block k ∷ path) → (q : Place ℕ) × Contains (place_at block k ∷ path) q × (q.block ≡ b)) → ⊥
  not_in_done b member passes =
      dominator_not_done order done block rest split walk.ordered.once _ function.entry walk.ordered.sorted b (dominates function b block k inside passes) member

  -- a value that each path to a place gives isn't closed, if it isn't so in the block
  not_closed : (from : ℕ) → ((path : List (Place ℕ)) → Walks (place_at block k ∷ path) → IsGivenAlong (function_code function) v (place_at block k ∷ path))
      → ((d : Place ℕ) → d.block ≡ block → from ≤ d.index → Contains (placed_gives (placed_at function d)) v → ⊥)
      → IsClosed function done block from v → ⊥
  not_closed from along within (inl result) = by result.1.1
    where
      by : Contains done result.0.block ⊎ ((result.0.block ≡ block) × (from ≤ result.0.index)) → ⊥
      by (inl member) =
          not_in_done result.0.block member
          (λ path is. (result.0, passes_place function count walk.gives_once v result.0 result.2 (place_at block k ∷ path) (along path is), refl))
      by (inr same) = within result.0 same.0 same.1 result.2
  not_closed from along within (inr parameter) =
      not_in_done parameter.0 parameter.1
      (λ path is. passes_block function count walk.gives_once v parameter.0 parameter.2 (place_at block k ∷ path) (along path is))

  module _ (well : WellPlaced function) (reached : IsReachable (function_flow function) (place_at block k)) where
    -- not every path to the place passes before it one of its block that stands no earlier
    never_before : (d : Place ℕ) → d.block ≡ block → k ≤ d.index → ((path : List (Place ℕ)) → Walks (place_at block k ∷ path) → Contains path d) → ⊥
    never_before d same below passes = never_twice function d block k same below passes (suc (length reached.0)) reached.0 (omega arith) reached.1

    -- what is live right before the place isn't closed, its results included
    pub open_before : IsLiveBefore every function (place_at block k) v → IsClosed function done block k v → ⊥
    open_before live =
        not_closed k (λ path is. inr (live_is_given every function well v (place_at block k) path is live)) within
      where
        within : (d : Place ℕ) → d.block ≡ block → k ≤ d.index → Contains (placed_gives (placed_at function d)) v → ⊥
        within d same below gives = never_before d same below (λ path is. by path (live_is_given every function well v (place_at block k) path is live))
          where
            by : (path : List (Place ℕ)) → Contains (given_on_entry (function_code function) block k) v ⊎ IsGivenAlong (function_code function) v path → Contains path d
            by path (inl entered) = absurd (walk.gives_once.apart block d v (is_entered function count walk.gives_once v (place_at block k) entered) gives)
            by path (inr along) = passes_place function count walk.gives_once v d gives path along

    -- and what is live right after it isn't before its results are given
    pub open_after : IsLiveAfter every function (place_at block k) v → IsClosed function done block (suc k) v → ⊥
    open_after live =
        not_closed (suc k) along within
      where
        along : (path : List (Place ℕ)) → Walks (place_at block k ∷ path) → IsGivenAlong (function_code function) v (place_at block k ∷ path)
        along path is = used_is_given every function well v (place_at block k) path live.0 is live.1

        within : (d : Place ℕ) → d.block ≡ block → suc k ≤ d.index → Contains (placed_gives (placed_at function d)) v → ⊥
        within d same below gives =
            never_before d same (omega (arith, below))
            (λ path is. by path (contains_cases (place_at block k) d path (passes_place function count walk.gives_once v d gives (place_at block k ∷ path) (along path is))))
          where
            by : (path : List (Place ℕ)) → (place_at block k ≡ d) ⊎ Contains path d → Contains path d
            by path (inl is) = absurd (let index : k ≡ d.index = ap (λ (q : Place ℕ). q.index) is in omega (arith, index, below))
            by path (inr more) = more
