-- Functions of one block, which no instruction leaves by an edge: what is given before a place on every path to it.
use Rattle.std.proofs.Common.{◌≡◌, ◌⊎◌, ◌<◌, ◌+◌, inl, inr, ℕ, zero, suc, List, [], ◌∷◌, length, refl, sym, subst, ◌∙◌, arith, Some}
use Rattle.std.specs.Prelude.{Contains}
use Rattle.clif_meaning.specs.FunctionView.{FunctionView}
use Rattle.clif_meaning.specs.Path.{IsPath, IsReachable, Leads, Place}
use Rattle.clif_meaning.specs.WellPlaced.{IsGivenAlong, function_code, function_flow, given_on_entry, placed_at, placed_gives, placed_targets}
use Rattle.clif_spilling_laws.specs.Live.{place_at}
use Rattle.clif_spilling_laws.proofs.Liveness.Reached.{in_reached}
use Rattle.clif_spilling_laws.proofs.Basics.Lists.{contains_none, some_same}

last_or_before : (j k : ℕ) → j < k + 1 → (k ≡ j) ⊎ (j < k)
last_or_before j k few = grind arith

-- What an instruction gives is given along each path that comes further in its block.
pub given_in_block : (function : FunctionView) (x b k : ℕ) → Contains (placed_gives (placed_at function (place_at b k))) x → (q : Place ℕ) (path : List (Place ℕ))
    → IsPath (function_flow function) (q ∷ path) → q.block ≡ b → k < q.index → IsGivenAlong (function_code function) x path
given_in_block function x b k h q [] start block further = absurd (let e = start.1.0 in omega (arith, e, further))
given_in_block function x b k h q (p ∷ path) walk block further = by walk.0 (given_in_block function x b k h p path walk.1)
  where
    by : Leads (function_flow function) p q → (p.block ≡ b → k < p.index → IsGivenAlong (function_code function) x path)
        → IsGivenAlong (function_code function) x (p ∷ path)
    by (inr other) along = absurd (let e = other.1.0 in omega (arith, e, further))
    by (inl next) along = which (last_or_before k p.index (let e = next.1 in omega (arith, e, further)))
      where
        same : p.block ≡ b
        same = sym next.0 ∙ block

        which : (p.index ≡ k) ⊎ (k < p.index) → IsGivenAlong (function_code function) x (p ∷ path)
        which (inr before) = inr (inr (along same before))
        which (inl here) =
            inl (subst (λ (d : ℕ). Contains (placed_gives (placed_at function (place_at d p.index))) x) (sym same)
            (subst (λ (i : ℕ). Contains (placed_gives (placed_at function (place_at b i))) x) (sym here) h))

module _ (function : FunctionView) (none : (p : Place ℕ) → placed_targets (placed_at function p) ≡ []) (entry : function.entry ≡ Some 0) where
  -- control goes to the next place of the block alone
  pub goes_next : (p q : Place ℕ) → Leads (function_flow function) p q → (q.block ≡ p.block) × (q.index ≡ p.index + 1)
  goes_next p q (inl next) = (next.0, next.1)
  goes_next p q (inr other) = absurd (contains_none q.block (subst (λ (xs : List ℕ). Contains xs q.block) (none p) other.0))

  pub in_entry : (p : Place ℕ) (path : List (Place ℕ)) → IsPath (function_flow function) (p ∷ path) → p.block ≡ 0
  in_entry p [] start = some_same p.block 0 (sym start.0 ∙ entry)
  in_entry p (q ∷ path) walk = let next = goes_next q p walk.0 in next.0 ∙ in_entry q path walk.1

  -- what an instruction gives is given along each path that comes further
  pub given_along : (x k : ℕ) → Contains (placed_gives (placed_at function (place_at 0 k))) x → (q : Place ℕ) (path : List (Place ℕ))
      → IsPath (function_flow function) (q ∷ path) → k < q.index → IsGivenAlong (function_code function) x path
  given_along x k h q path walk further = given_in_block function x 0 k h q path walk (in_entry q path walk) further

  -- and so is a parameter
  pub parameter_along : (x : ℕ) → Contains (function.blocks 0).parameters x → (q : Place ℕ) (path : List (Place ℕ))
      → IsPath (function_flow function) (q ∷ path) → 0 < q.index → IsGivenAlong (function_code function) x path
  parameter_along x h q [] start further = absurd (let e = start.1.0 in omega (arith, e, further))
  parameter_along x h q (p ∷ path) walk further = by p.index refl (parameter_along x h p path walk.1)
    where
      by : (i : ℕ) → p.index ≡ i → (0 < p.index → IsGivenAlong (function_code function) x path) → IsGivenAlong (function_code function) x (p ∷ path)
      by zero is along =
          inr (inl (subst (λ (b : ℕ). Contains (given_on_entry (function_code function) b p.index) x) (sym (in_entry p path walk.1))
          (subst (λ (i : ℕ). Contains (given_on_entry (function_code function) 0 i) x) (sym is) h)))
      by (suc i) is along = inr (inr (along (omega (arith, is))))

  -- each place of the block is reached
  pub reach : (k : ℕ) → k < length (function.blocks 0).items → IsReachable (function_flow function) (place_at 0 k)
  reach k inside = in_reached function 0 (inl entry) k inside
