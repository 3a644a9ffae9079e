-- Liveness in a well placed function in which each value is given once, over any test that says which arguments count: what is live
-- was given before; nothing is live at the entry but its parameters; and a spilled value is live right after it is given.
use Rattle.std.proofs.Common.{◌≡◌, ◌⊎◌, ◌<◌, inl, inr, ℕ, zero, suc, List, [], ◌∷◌, map, flat_map, sym, subst, Option, Some, None, Bool}
use Rattle.std.specs.Prelude.{Contains}
use Rattle.std.proofs.lemmas.List.Elements.{Contains-append_left, Contains-append_right}
use Rattle.clif_meaning.specs.FunctionView.{FunctionView, Placed}
use Rattle.clif_meaning.specs.Instruction.{Known, Edge, named_operands}
use Rattle.clif_meaning.specs.Path.{Place, IsPath, IsReachable}
use Rattle.clif_meaning.specs.WellPlaced.{IsGivenAlong, WellPlaced, function_code, function_flow, given_on_entry, known_argument, passed_operands, placed_at, placed_gives, placed_names, placed_passes}
use Rattle.clif_safepoints.specs.Liveness.{IsPassed, IsUsedAhead, used_operands}
use Rattle.clif_safepoints.proofs.Paths.{contains_map, contained_in_map, contains_at}
use Rattle.clif_spilling_laws.specs.GivesOnce.{GivesOnce}
use Rattle.clif_spilling_laws.specs.Live.{IsLiveAfter, IsLiveBefore, counted}
use Rattle.clif_spilling_laws.proofs.Basics.Lists.{contains_cases, contains_first, contains_none}

-- WHAT IS NAMED ---------------------------------------------------------------------------------------------------------

-- operands are named
used_named : (resolved : ℕ → ℕ) (placed : Option Placed) (v : ℕ) → Contains (used_operands resolved placed) v → Contains (placed_names resolved placed) v
used_named resolved None v h = h
used_named resolved (Some placed) v h =
    let from = contained_in_map resolved placed.instruction.operands v h in
    subst (λ (w : ℕ). Contains (map resolved (named_operands placed.instruction)) w) from.2
    (contains_map resolved (named_operands placed.instruction) from.0
    (Contains-append_left placed.instruction.operands placed.instruction.contexts from.0 from.1))

-- a member of one of the lists is one of all together
in_flat : {X : Type 0} (f : X → List ℕ) (xs : List X) (x : X) (v : ℕ) → Contains xs x → Contains (f x) v → Contains (flat_map f xs) v
in_flat f [] x v h inside = absurd (contains_none x h)
in_flat {X} f (y ∷ xs) x v h inside = by (contains_cases y x xs h) (λ more. in_flat f xs x v more inside)
  where
    by : (y ≡ x) ⊎ Contains xs x → (Contains xs x → Contains (flat_map f xs) v) → Contains (flat_map f (y ∷ xs)) v
    by (inl same) later =
        Contains-append_left (f y) (flat_map f xs) v (subst (λ (z : X). Contains (f z) v) (sym same) inside)
    by (inr more) later = Contains-append_right (f y) (flat_map f xs) v (later more)

-- what an edge passes is passed
passed_named : (counts : ℕ → ℕ → Type 0) (resolved : ℕ → ℕ) (placed : Option Placed) (v : ℕ) → IsPassed counts resolved v placed
    → Contains (placed_passes resolved placed) v
passed_named counts resolved None v h = absurd h
passed_named counts resolved (Some placed) v h =
    let edge : Edge ℕ ℕ = h.0 in
    let known : Contains edge.arguments (Known h.2) = contains_at edge.arguments h.1 (Known h.2) h.4 in
    subst (λ (w : ℕ). Contains (map resolved (passed_operands placed.instruction)) w) h.5
    (contains_map resolved (passed_operands placed.instruction) h.2
    (in_flat (λ (e : Edge ℕ ℕ). flat_map known_argument e.arguments) placed.instruction.edges edge h.2 h.3
    (in_flat known_argument edge.arguments (Known h.2) h.2 known (contains_first h.2 []))))

module _ (counts : ℕ → ℕ → Bool) (function : FunctionView) (well : WellPlaced function) where
  abbrev Given : ℕ → List (Place ℕ) → Type 0
  Given v path = IsGivenAlong (function_code function) v path

  abbrev entered : Place ℕ → List ℕ
  entered p = given_on_entry (function_code function) p.block p.index

  abbrev gives : Place ℕ → List ℕ
  gives p = placed_gives (placed_at function p)

  -- What is used ahead was given on the path so far.
  pub used_is_given : (v : ℕ) (p : Place ℕ) (path ahead : List (Place ℕ)) → IsPath (function_flow function) (p ∷ path)
      → IsUsedAhead (counted counts) function v p ahead → Given v (p ∷ path)
  used_is_given v p path [] walk passed =
      by (well.passed p v (passed_named (counted counts) function.resolved (placed_at function p) v passed))
    where
      by : Contains (gives p) v ⊎ ((path : List (Place ℕ)) → IsPath (function_flow function) (p ∷ path) → Contains (entered p) v ⊎ Given v path) → Given v (p ∷ path)
      by (inl here) = inl here
      by (inr before) = inr (before path walk)
  used_is_given v p path (q ∷ ahead) walk used =
      by used.2 (used_is_given v q (p ∷ path) ahead)
    where
      longer : IsPath (function_flow function) (q ∷ p ∷ path)
      longer = (used.0, walk)

      named : Contains (entered q) v ⊎ Given v (p ∷ path) → Given v (p ∷ path)
      named (inl here) = absurd (used.1 here)
      named (inr before) = before

      later : (Contains (gives q) v → ⊥) → Contains (gives q) v ⊎ Contains (entered q) v ⊎ Given v (p ∷ path) → Given v (p ∷ path)
      later none (inl here) = absurd (none here)
      later none (inr more) = named more

      by : Contains (used_operands function.resolved (placed_at function q)) v
          ⊎ ((¬ Contains (gives q) v) × IsUsedAhead (counted counts) function v q ahead)
          → (IsPath (function_flow function) (q ∷ p ∷ path) → IsUsedAhead (counted counts) function v q ahead → Given v (q ∷ p ∷ path))
          → Given v (p ∷ path)
      by (inl here) next = named (well.named q v (used_named function.resolved (placed_at function q) v here) (p ∷ path) longer)
      by (inr on) next = later on.0 (next longer on.1)

  -- So what is live before a place was given before it, or is a parameter that is given as the place is come to.
  pub live_is_given : (v : ℕ) (p : Place ℕ) (path : List (Place ℕ)) → IsPath (function_flow function) (p ∷ path)
      → IsLiveBefore counts function p v → Contains (entered p) v ⊎ Given v path
  live_is_given v p path walk (inl used) = well.named p v (used_named function.resolved (placed_at function p) v used) path walk
  live_is_given v p path walk (inr across) = by (used_is_given v p path across.1 walk across.2)
    where
      by : Contains (gives p) v ⊎ Contains (entered p) v ⊎ Given v path → Contains (entered p) v ⊎ Given v path
      by (inl here) = absurd (across.0 here)
      by (inr before) = before

  -- nothing is live at the front of the entry but its parameters
  pub entry_is_live : (v : ℕ) (p : Place ℕ) → IsPath (function_flow function) (p ∷ []) → IsLiveBefore counts function p v → Contains (entered p) v
  entry_is_live v p walk live = by (live_is_given v p [] walk live)
    where
      by : Contains (entered p) v ⊎ Given v [] → Contains (entered p) v
      by (inl here) = here
      by (inr none) = absurd none

  module _ (count : ℕ) (once : GivesOnce function count) where
    entered_below : (v b k : ℕ) → Contains (given_on_entry (function_code function) b k) v → v < count
    entered_below v b zero h = once.parameters_below b v h
    entered_below v b (suc k) h = absurd (contains_none v h)

    given_below : (v : ℕ) (path : List (Place ℕ)) → Given v path → v < count
    given_below v [] given = absurd given
    given_below v (p ∷ path) (inl here) = once.results_below p v here
    given_below v (p ∷ path) (inr more) = by more (given_below v path)
      where
        by : Contains (entered p) v ⊎ Given v path → (Given v path → v < count) → v < count
        by (inl here) later = entered_below v p.block p.index here
        by (inr before) later = later before

    -- what is live at a place that is reached is one of the function's values
    pub live_below : (v : ℕ) (p : Place ℕ) → IsReachable (function_flow function) p → IsLiveBefore counts function p v → v < count
    live_below v p reachable live = by (live_is_given v p reachable.0 reachable.1 live)
      where
        by : Contains (entered p) v ⊎ Given v reachable.0 → v < count
        by (inl here) = entered_below v p.block p.index here
        by (inr before) = given_below v reachable.0 before

    -- and so is what is live after it
    pub live_after_below : (v : ℕ) (p : Place ℕ) → IsReachable (function_flow function) p → IsLiveAfter counts function p v → v < count
    live_after_below v p reachable live = given_below v (p ∷ reachable.0) (used_is_given v p reachable.0 live.0 reachable.1 live.1)
