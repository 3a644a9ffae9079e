-- A block that every path to an instruction passes dominates the block of the instruction.
use Rattle.std.proofs.Common.{◌≡◌, ◌<◌, ◌⊎◌, ℕ, zero, suc, List, [], ◌∷◌, length, refl, sym, subst, arith, inl, inr}
use Rattle.std.specs.Prelude.{Contains}
use Rattle.std.proofs.lemmas.Option.{slice_get_within}
use Rattle.clif_ir.specs.Body.{Body}
use Rattle.clif_meaning.specs.Path.{IsPath, Place}
use Rattle.clif_meaning.specs.View.{view_of}
use Rattle.clif_meaning.specs.WellPlaced.{function_flow}
use Rattle.clif_safepoints.specs.Fronts.{at}
use Rattle.clif_safepoints.specs.Order.{Dominates, IsWay, followed_blocks}
use Rattle.clif_safepoints.specs.Transfer.{insts_of}
use Rattle.clif_safepoints.proofs.Concluding.{followed_blocks_are, place_targets, target_at}
use Rattle.clif_safepoints.proofs.Paths.{goes_on, size_is}

-- a path to the place through these blocks alone
abbrev pub PathWithin : Body → List ℕ → Place ℕ → Type 0
PathWithin f blocks p =
    (path : List (Place ℕ)) × IsPath (function_flow (view_of f)) (p ∷ path) × ((q : Place ℕ) → Contains (p ∷ path) q → Contains blocks q.block)

first_or_later : {X : Type 0} (x : X) (xs : List X) (y : X) → Contains (x ∷ xs) y → (x ≡ y) ⊎ Contains xs y
first_or_later x xs y (zero, inside, is) = inl is
first_or_later x xs y (suc k, inside, is) = inr (k, omega (arith, inside), is)

-- one place more
more_within : (f : Body) (blocks : List ℕ) (p : Place ℕ) (path : List (Place ℕ)) → Contains blocks p.block → ((q : Place ℕ) → Contains path q → Contains blocks q.block)
    → (q : Place ℕ) → Contains (p ∷ path) q → Contains blocks q.block
more_within f blocks p path here rest q h = by (first_or_later p path q h)
  where
    by : (p ≡ q) ⊎ Contains path q → Contains blocks q.block
    by (inl same) = subst (λ (r : Place ℕ). Contains blocks r.block) same here
    by (inr later) = rest q later

along_block : (f : Body) (blocks : List ℕ) (b : ℕ) → Contains blocks b → PathWithin f blocks (at b 0) → (k : ℕ) → k < length (insts_of f b) → PathWithin f blocks (at b k)
along_block f blocks b member front zero inside = front
along_block f blocks b member front (suc k) inside =
    let before = along_block f blocks b member front k (omega (arith, inside)) in
    (at b k ∷ before.0, (goes_on f b k inside, before.1), more_within f blocks (at b (suc k)) (at b k ∷ before.0) member before.2)

to_front : (f : Body) (way : List ℕ) (b : ℕ) → IsWay (followed_blocks (view_of f)) (view_of f).entry (b ∷ way) → 0 < length (insts_of f b) → PathWithin f (b ∷ way) (at b 0)
to_front f [] b walk some =
    ([], (walk, (refl, subst (λ n. 0 < n) (sym (size_is f b)) some)), more_within f (b ∷ []) (at b 0) [] (0, omega arith, refl) (λ q h. absurd (omega (arith, h.1))))
to_front f (a ∷ way) b walk some =
    let from = target_at f (insts_of f a) b (subst (λ xs. Contains xs b) (followed_blocks_are f a) walk.0) in
    let inside = slice_get_within (insts_of f a) from.0 from.1 from.2 in
    let before = along_block f (a ∷ way) a (0, omega arith, refl) (to_front f way a walk.1 (omega (arith, inside))) from.0 inside in (
      at a from.0 ∷ before.0,
      (inr (place_targets f a from.0 from.1 b from.2 from.3, (refl, subst (λ n. 0 < n) (sym (size_is f b)) some)), before.1),
      more_within f (b ∷ a ∷ way) (at b 0) (at a from.0 ∷ before.0) (0, omega arith, refl)
          (λ q h. let m = before.2 q h in (suc m.0, (let below = m.1 in omega (arith, below)), m.2)),
    )

-- where every path to an instruction passes a block, it dominates the instruction's block
pub dominates_from_paths : (f : Body) (other block k : ℕ) → k < length (insts_of f block)
    → ((path : List (Place ℕ)) → IsPath (function_flow (view_of f)) (at block k ∷ path) → (q : Place ℕ) × Contains (at block k ∷ path) q × (q.block ≡ other))
    → Dominates (followed_blocks (view_of f)) (view_of f).entry other block
dominates_from_paths f other block k inside passes = λ way walk.
    let path = along_block f (block ∷ way) block (0, omega arith, refl) (to_front f way block walk (omega (arith, inside))) k inside in
    let passed = passes path.0 path.1 in subst (λ b. Contains (block ∷ way) b) passed.2 (path.2 passed.0 passed.1)
