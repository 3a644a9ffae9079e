-- Paths of the irreducible loop, and a function that isn't well placed.
use Rattle.std.proofs.Common.{◌≡◌, ◌≢◌, ◌<◌, ℕ, zero, suc, List, [], ◌∷◌, refl, ◌∙◌, ap, arith, ◌⊎◌, inl, inr, Some, slice_index_or}
use Rattle.std.specs.Prelude.{Contains}
use Rattle.clif_meaning.specs.Path.{Place, Leads, IsPath, IsReachable, StrictlyBefore}
use Rattle.clif_meaning.specs.WellPlaced.{WellPlaced}
use Rattle.clif_meaning.specs.ScriptExamples.{loop_flow, at_block, unplaced_function}
use Rattle.clif_meaning.proofs.StraightLine

contains_later : {X : Type 0} (y x : X) (xs : List X) → Contains xs x → Contains (y ∷ xs) x
contains_later y x xs h = (suc h.0, omega (arith, h.1), h.2)

-- each block has one place
one_place : (path : List (Place ℕ)) (q : Place ℕ) → IsPath loop_flow (q ∷ path) → q.index ≡ 0
one_place [] q start = start.1.0
one_place (p ∷ path) q walk = by walk.0
  where
    by : Leads loop_flow p q → q.index ≡ 0
    by (inl next) = omega (arith, next.2)
    by (inr enters) = enters.1.0

-- the entry's place
first_place : (p : Place ℕ) → p.block ≡ 0 → p.index ≡ 0 → p ≡ at_block 0
first_place p block index =
    let there : Place ℕ → Place ℕ = λ q. q in
    ap (λ (b : ℕ). there (record { block = b; index = p.index })) block ∙ ap (λ (i : ℕ). there (record { block = 0; index = i })) index

-- a path begins at the entry
begins : (path : List (Place ℕ)) (q : Place ℕ) → IsPath loop_flow (q ∷ path) → q.block ≢ 0 → Contains path (at_block 0)
begins [] q start other = absurd (other (entry_is q.block start.0))
  where
    entry_is : (b : ℕ) → Some 0 ≡ Some b → b ≡ 0
    entry_is b same = cc
begins (p ∷ path) q walk other = by p.block refl (begins path p walk.1)
  where
    by : (b : ℕ) → p.block ≡ b → (p.block ≢ 0 → Contains path (at_block 0)) → Contains (p ∷ path) (at_block 0)
    by zero here earlier = (0, omega arith, first_place p here (one_place path p walk.1))
    by (suc b) there earlier = contains_later p (at_block 0) path (earlier (λ same. absurd (omega arith)))

pub entry_before : StrictlyBefore loop_flow (at_block 0) (at_block 3)
entry_before path walk = begins path (at_block 3) walk (λ same. absurd (omega arith))

-- by block 1
pub reached : IsReachable loop_flow (at_block 3)
reached = (
  at_block 1 ∷ at_block 0 ∷ [],
  (inr ((1, omega arith, refl), (refl, omega arith)), (inr ((0, omega arith, refl), (refl, omega arith)), (refl, (refl, omega arith)))),
)

-- by block 2
by_block_2 : IsPath loop_flow (at_block 3 ∷ at_block 2 ∷ at_block 0 ∷ [])
by_block_2 = (inr ((1, omega arith, refl), (refl, omega arith)), (inr ((1, omega arith, refl), (refl, omega arith)), (refl, (refl, omega arith))))

pub way_round : StrictlyBefore loop_flow (at_block 1) (at_block 3) → ⊥
way_round always = by found.0 found.1 found.2
  where
    found : Contains (at_block 2 ∷ at_block 0 ∷ []) (at_block 1)
    found = always (at_block 2 ∷ at_block 0 ∷ []) by_block_2

    by : (k : ℕ) → k < 2 → slice_index_or (at_block 2 ∷ at_block 0 ∷ []) k (at_block 1) ≡ at_block 1 → ⊥
    by zero below same = absurd (omega (arith, ap (λ (p : Place ℕ). p.block) same))
    by (suc zero) below same = absurd (omega (arith, ap (λ (p : Place ℕ). p.block) same))
    by (suc (suc k)) below same = absurd (omega arith)

-- the path that is the entry's first place comes to the return, and gave nothing before
pub unplaced : WellPlaced unplaced_function → ⊥
unplaced placed = by (placed.named (at_block 0) 2 (0, omega arith, refl) [] (refl, (refl, omega arith)))
  where
    by : Contains {X = ℕ} [] 2 ⊎ ⊥ → ⊥
    by (inl given) = StraightLine.nothing_contained {X = ℕ} 2 given
    by (inr given) = given
