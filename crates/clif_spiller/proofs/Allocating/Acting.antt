-- What an instruction uses is live before it; what is live where it leads is live after it; and what counts where each argument of an edge
-- counts.
use Rattle.std.proofs.Common.{◌≡◌, ◌⊎◌, ◌<◌, inl, inr, ℕ, suc, List, [], ◌∷◌, length, Option, None, Some, refl, ap, subst, arith}
use Rattle.std.specs.Prelude.{Contains}
use Rattle.clif_meaning.specs.FunctionView.{FunctionView, Placed}
use Rattle.clif_meaning.specs.Instruction.{Edge}
use Rattle.clif_meaning.specs.Path.{Place}
use Rattle.clif_meaning.specs.WellPlaced.{placed_at, placed_gives, placed_targets}
use Rattle.clif_safepoints.specs.Liveness.{IsLiveAcross, IsPassed, IsUsedAhead, every_argument, used_operands}
use Rattle.clif_safepoints.specs.Liveness as safepoints
use Rattle.clif_safepoints.proofs.Paths.{contains_map}
use Rattle.clif_spilling_laws.specs.GivesOnce.{GivesOnce}
use Rattle.clif_spilling_laws.specs.Live.{IsLiveAfter, IsLiveBefore, counted, place_at}
use Rattle.clif_spilling_laws.proofs.Basics.Lists.{contains_none}
use Rattle.clif_spiller.specs.Allocating.{IsUsedAt, every}
use Rattle.clif_spiller.proofs.Allocating.Covering.{none_live}

-- COUNTING --------------------------------------------------------------------------------------------------------------

module _ (one two : ℕ → ℕ → Type 0) (more : (target place : ℕ) → one target place → two target place) (function : FunctionView) (v : ℕ) where
  passed_too : (found : Option Placed) → IsPassed one function.resolved v found → IsPassed two function.resolved v found
  passed_too None passed = passed
  passed_too (Some placed) passed = (passed.0, passed.1, passed.2, passed.3, passed.4, passed.5, more passed.0.target passed.1 passed.6)

  ahead_too : (path : List (Place ℕ)) (p : Place ℕ) → IsUsedAhead one function v p path → IsUsedAhead two function v p path
  ahead_too [] p passed = passed_too (placed_at function p) passed
  ahead_too (q ∷ path) p used = (used.0, used.1, by used.2 (ahead_too path q))
    where
      by : Contains (used_operands function.resolved (placed_at function q)) v ⊎ ((¬ Contains (placed_gives (placed_at function q)) v) × IsUsedAhead one function v q path)
          → (IsUsedAhead one function v q path → IsUsedAhead two function v q path)
          → Contains (used_operands function.resolved (placed_at function q)) v ⊎ ((¬ Contains (placed_gives (placed_at function q)) v) × IsUsedAhead two function v q path)
      by (inl used) next = inl used
      by (inr on) next = inr (on.0, next on.1)

  across_too : (p : Place ℕ) → IsLiveAcross one function p v → IsLiveAcross two function p v
  across_too p live = (live.0, live.1, ahead_too live.1 p live.2)

  before_too : (p : Place ℕ) → safepoints.IsLiveBefore one function p v → safepoints.IsLiveBefore two function p v
  before_too p live = elim live [ inl used ↦ inl used | inr across ↦ inr (across_too p across) ]

-- live where each argument counts, by either word
pub across_counted : (function : FunctionView) (v : ℕ) (p : Place ℕ) → IsLiveAcross every_argument function p v → IsLiveAcross (counted every) function p v
across_counted function v p live = across_too every_argument (counted every) (λ target place counts. refl) function v p live

pub across_every : (function : FunctionView) (v : ℕ) (p : Place ℕ) → IsLiveAcross (counted every) function p v → IsLiveAcross every_argument function p v
across_every function v p live = across_too (counted every) every_argument (λ target place counts. tt) function v p live

pub before_counted : (function : FunctionView) (v : ℕ) (p : Place ℕ) → safepoints.IsLiveBefore every_argument function p v → IsLiveBefore every function p v
before_counted function v p live = before_too every_argument (counted every) (λ target place counts. refl) function v p live

pub before_every : (function : FunctionView) (v : ℕ) (p : Place ℕ) → IsLiveBefore every function p v → safepoints.IsLiveBefore every_argument function p v
before_every function v p live = before_too (counted every) every_argument (λ target place counts. tt) function v p live

-- USES ------------------------------------------------------------------------------------------------------------------

-- what is live at the front of a block to which a place leads, and no parameter of it, is live after the place
pub out_is_live : (function : FunctionView) (p : Place ℕ) (target v : ℕ) → Contains (placed_targets (placed_at function p)) target
    → IsLiveBefore every function (place_at target 0) v → (¬ Contains (function.blocks target).parameters v) → IsLiveAfter every function p v
out_is_live function p target v leads live none = by (function.blocks target).items refl
  where
    on : 0 < length (function.blocks target).items → IsLiveAfter every function p v
    on some =
        elim live [
          | inl used ↦ (place_at target 0 ∷ [], (inr (leads, (refl, some)), none, inl used))
          | inr across ↦ (place_at target 0 ∷ across.1, (inr (leads, (refl, some)), none, inr (across.0, across.2)))
        ]

    by : (items : List Placed) → (function.blocks target).items ≡ items → IsLiveAfter every function p v
    by [] is = absurd (none_live function target v is live)
    by (placed ∷ items) is = on (let long : length (function.blocks target).items ≡ suc (length items) = ap length is in omega (arith, long))

-- what is live after a place that gives nothing is live before it
after_is_before : (function : FunctionView) (p : Place ℕ) (v : ℕ) → placed_gives (placed_at function p) ≡ [] → IsLiveAfter every function p v → IsLiveBefore every function p v
after_is_before function p v none live = inr ((λ h. contains_none v (subst (λ xs. Contains xs v) none h)), live.0, live.1)

module _ (function : FunctionView) (count : ℕ) (once : GivesOnce function count) (p : Place ℕ) (v : ℕ) where
  gives_none : (target : ℕ) → Contains (placed_targets (placed_at function p)) target → placed_gives (placed_at function p) ≡ []
  gives_none target leads = once.edges_give_nothing p (λ none. contains_none target (subst (λ xs. Contains xs target) none leads))

  -- and before it, too
  pub out_is_live_before : (target : ℕ) → Contains (placed_targets (placed_at function p)) target
      → IsLiveBefore every function (place_at target 0) v → (¬ Contains (function.blocks target).parameters v) → IsLiveBefore every function p v
  out_is_live_before target leads live none = after_is_before function p v (gives_none target leads) (out_is_live function p target v leads live none)

  -- what an instruction uses is live before it, what its edges pass included
  pub used_is_live : IsUsedAt function p v → IsLiveBefore every function p v
  used_is_live (inl operand) = inl operand
  used_is_live (inr passed) = after_is_before function p v (by (placed_at function p) (gives_none) passed) ([], passed)
    where
      by : (found : Option Placed) → ((target : ℕ) → Contains (placed_targets found) target → placed_gives (placed_at function p) ≡ [])
          → IsPassed (counted every) function.resolved v found → placed_gives (placed_at function p) ≡ []
      by None none edge = absurd edge
      by (Some placed) none edge = none edge.0.target (contains_map (λ (e : Edge ℕ ℕ). e.target) placed.instruction.edges edge.0 edge.3)
