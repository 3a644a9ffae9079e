-- Code without branches: what an earlier place of a block gives is given before every later one.
use Rattle.std.proofs.Common.{◌≡◌, ◌+◌, ◌<◌, ℕ, arith, ◌⊎◌, inl, inr, subst, List, [], ◌∷◌}
use Rattle.std.specs.Prelude.{Contains}
use Rattle.clif_meaning.specs.Path.{Place, IsPath, Leads}
use Rattle.clif_meaning.specs.WellPlaced.{Code, IsGivenAlong}

pub nothing_contained : {X : Type 0} (x : X) → Contains [] x → ⊥
nothing_contained x h = absurd (omega (arith, h.1))

-- nothing is contained in a list that is empty
pub none_of : {X : Type 0} (xs : List X) (x : X) → xs ≡ [] → Contains xs x → ⊥
none_of {X} xs x e h = nothing_contained x (subst (λ (ys : List X). Contains ys x) e h)

module _ {Block Thing : Type 0} (code : Code Block Thing) (straight : (p : Place Block) → code.flow.targets p ≡ []) where
  pub given_along : (path : List (Place Block)) (q : Place Block) (j : ℕ) (x : Thing)
      → IsPath code.flow (q ∷ path) → j < q.index → Contains (code.gives (record { block = q.block; index = j })) x → IsGivenAlong code x path
  given_along [] q j x start below gives = absurd (omega (arith, start.1.0))
  given_along (p ∷ path) q j x walk below gives = by walk.0 (given_along path p j x walk.1)
    where
      order : (j k : ℕ) → j < k + 1 → (j < k) ⊎ (j ≡ k)
      order j k h = grind arith

      next : (b : Block) → q.block ≡ b → Contains (code.gives (record { block = b; index = j })) x
      next b same = subst (λ (b : Block). Contains (code.gives (record { block = b; index = j })) x) same gives

      in_block : (j < p.index → Contains (code.gives (record { block = p.block; index = j })) x → IsGivenAlong code x path)
          → q.block ≡ p.block → (j < p.index) ⊎ (j ≡ p.index) → IsGivenAlong code x (p ∷ path)
      in_block earlier same (inl before) = inr (inr (earlier before (next p.block same)))
      in_block earlier same (inr here) =
          inl (subst (λ (i : ℕ). Contains (code.gives (record { block = p.block; index = i })) x) here (next p.block same))

      by : Leads code.flow p q → (j < p.index → Contains (code.gives (record { block = p.block; index = j })) x → IsGivenAlong code x path)
          → IsGivenAlong code x (p ∷ path)
      by (inl after) earlier = in_block earlier after.0 (order j p.index (omega (arith, after.1)))
      by (inr enters) earlier = absurd (none_of (code.flow.targets p) q.block (straight p) enters.0)
