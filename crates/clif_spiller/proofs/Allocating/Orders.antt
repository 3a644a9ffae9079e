-- Blocks in an order that has each once: those before the block at hand, and what comes before them.
use Rattle.std.proofs.Common.{◌≡◌, ◌<◌, ℕ, zero, suc, List, [], ◌∷◌, ◌++◌, length, Option, Some, refl, sym, ap, subst, arith}
use Rattle.std.specs.Prelude.{Contains, slice_get}
use Rattle.std.proofs.lemmas.Option.{slice_get_within}
use Rattle.clif_instructions.specs.Members.{Once}
use Rattle.clif_safepoints.specs.Order.{Dominates, IsSorted}
use Rattle.clif_safepoints.proofs.Paths.{contains_at, place_of_member}
use Rattle.clif_spilling_laws.proofs.Basics.Lists.{contains_first, contains_more, some_same}
use Rattle.clif_spiller.specs.Allocating.{ComesBefore, Distinct}
use Rattle.clif_spiller.proofs.Allocating.Lists.{get_front, once_distinct}

-- a number stands at one place
one_index : (xs : List ℕ) → Distinct xs → (i j b : ℕ) → slice_get xs i ≡ Some b → slice_get xs j ≡ Some b → i ≡ j
one_index [] distinct i j b here there = absurd cc
one_index (x ∷ xs) distinct zero zero b here there = refl
one_index (x ∷ xs) distinct zero (suc j) b here there = absurd (distinct.0 (subst (λ y. Contains xs y) (sym (some_same _ _ here)) (contains_at xs j b there)))
one_index (x ∷ xs) distinct (suc i) zero b here there = absurd (distinct.0 (subst (λ y. Contains xs y) (sym (some_same _ _ there)) (contains_at xs i b here)))
one_index (x ∷ xs) distinct (suc i) (suc j) b here there = ap suc (one_index xs distinct.1 i j b here there)

in_middle : (xs : List ℕ) (x : ℕ) (ys : List ℕ) → slice_get (xs ++ x ∷ ys) (length xs) ≡ Some x
in_middle [] x ys = refl
in_middle (y ∷ xs) x ys = in_middle xs x ys

in_front : (xs ys : List ℕ) (i b : ℕ) → slice_get (xs ++ ys) i ≡ Some b → i < length xs → Contains xs b
in_front [] ys i b is inside = absurd (omega (arith, inside))
in_front (x ∷ xs) ys zero b is inside = subst (λ y. Contains (x ∷ xs) y) (some_same _ _ is) (contains_first x xs)
in_front (x ∷ xs) ys (suc i) b is inside = contains_more x b xs (in_front xs ys i b is (omega (arith, inside)))

module _ (order done : List ℕ) (block : ℕ) (rest : List ℕ) (split : order ≡ done ++ block ∷ rest) (once : Once order) where
  distinct : Distinct order
  distinct = once_distinct order once

  here : slice_get order (length done) ≡ Some block
  here = subst (λ xs. slice_get xs (length done) ≡ Some block) (sym split) (in_middle done block rest)

  place_of_done : (b : ℕ) → Contains done b → (i : ℕ) × (i < length done) × (slice_get order i ≡ Some b)
  place_of_done b member =
      let at = place_of_member done b member in
      (at.0, slice_get_within done at.0 b at.1, subst (λ xs. slice_get xs at.0 ≡ Some b) (sym split) (get_front done (block ∷ rest) at.0 b at.1))

  is_done : (i b : ℕ) → slice_get order i ≡ Some b → i < length done → Contains done b
  is_done i b is inside = in_front done (block ∷ rest) i b (subst (λ xs. slice_get xs i ≡ Some b) split is) inside

  -- what comes before a block that is done is done
  pub comes_done : (c b : ℕ) → ComesBefore order c b → Contains done b → Contains done c
  comes_done c b comes member =
      let at = place_of_done b member in
      let same : comes.1 ≡ at.0 = one_index order distinct comes.1 at.0 b comes.4 at.2 in
      is_done comes.0 c comes.3 (let below = comes.2 in let inside = at.1 in omega (arith, below, same, inside))

  -- and what comes before the block at hand
  pub comes_here : (c : ℕ) → ComesBefore order c block → Contains done c
  comes_here c comes =
      let same : comes.1 ≡ length done = one_index order distinct comes.1 (length done) block comes.4 here in
      is_done comes.0 c comes.3 (let below = comes.2 in omega (arith, below, same))

  pub done_comes : (b : ℕ) → Contains done b → ComesBefore order b block
  done_comes b member = let at = place_of_done b member in (at.0, length done, at.1, at.2, here)

  pub not_done : Contains done block → ⊥
  not_done member =
      let at = place_of_done block member in
      let same : at.0 ≡ length done = one_index order distinct at.0 (length done) block at.2 here in
      let inside = at.1 in
      omega (arith, inside, same)

  -- what dominates the block at hand isn't done
  pub dominator_not_done : (leads : ℕ → List ℕ) (entry : Option ℕ) → IsSorted leads entry order → (other : ℕ) → Dominates leads entry other block → Contains done other → ⊥
  dominator_not_done leads entry sorted other dominates member =
      let at = place_of_done other member in
      let later = sorted (length done) block other here dominates in
      let same : at.0 ≡ later.0 = one_index order distinct at.0 later.0 other at.2 later.2 in
      let inside = at.1 in
      let after = later.1 in
      omega (arith, inside, after, same)
