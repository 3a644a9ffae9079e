-- Paths from the entry: where each path to a place passes a block, it dominates the place's block; and not every path to a place can
-- pass one that stands no earlier in its block before it comes there.
use Rattle.std.proofs.Common.{◌≡◌, ◌⊎◌, ◌<◌, ◌≤◌, ◌+◌, ◌-◌, inl, inr, ℕ, zero, suc, List, [], ◌∷◌, length, flat_map, Option, None, Some, refl, sym, subst, arith}
use Rattle.std.specs.Prelude.{Contains, slice_get}
use Rattle.std.proofs.lemmas.List.Elements.{Contains-append_cases, Contains-push_cases}
use Rattle.std.proofs.lemmas.Option.{slice_get_within}
use Rattle.clif_meaning.specs.FunctionView.{FunctionView, Placed}
use Rattle.clif_meaning.specs.Instruction.{Operation, TryCall, TryCallIndirect}
use Rattle.clif_meaning.specs.Path.{IsPath, Leads, Place}
use Rattle.clif_meaning.specs.WellPlaced.{edge_targets, function_flow, placed_at, placed_gives, placed_targets}
use Rattle.clif_safepoints.specs.Analysis.{IsReached}
use Rattle.clif_safepoints.specs.Order.{Dominates, IsWay, first_to_back, followed, followed_blocks, followed_targets}
use Rattle.clif_spilling_laws.specs.Live.{place_at}
use Rattle.clif_spilling_laws.proofs.Basics.Lists.{contains_cases, contains_first, contains_more, contains_none}

-- EDGES -----------------------------------------------------------------------------------------------------------------

at_back : {X : Type 0} (xs : List X) (x : X) → Contains (first_to_back xs) x → Contains xs x
at_back [] x h = h
at_back (y ∷ xs) x h =
    elim (Contains-push_cases xs y x h) [ inl rest ↦ contains_more y x xs rest | inr first ↦ subst (λ z. Contains (y ∷ xs) z) first (contains_first y xs) ]

-- what is followed is what there is
is_followed : {X : Type 0} (operation : Operation) (edges : List X) (x : X) → Contains (followed operation edges) x → Contains edges x
is_followed (TryCall name call) edges x h = at_back edges x h
is_followed (TryCallIndirect call) edges x h = at_back edges x h
is_followed _ edges x h = h

-- a block to which a block leads is a target of one of its instructions
target_in : (items : List Placed) (t : ℕ) → Contains (flat_map followed_targets items) t
    → (k : ℕ) × (placed : Placed) × (slice_get items k ≡ Some placed) × Contains (edge_targets placed.instruction) t
target_in [] t h = absurd (contains_none t h)
target_in (placed ∷ items) t h =
    by (Contains-append_cases (followed_targets placed) (flat_map followed_targets items) t h) (target_in items t)
  where
    by : Contains (followed_targets placed) t ⊎ Contains (flat_map followed_targets items) t
        → (Contains (flat_map followed_targets items) t
        → (k : ℕ) × (other : Placed) × (slice_get items k ≡ Some other) × Contains (edge_targets other.instruction) t)
        → (k : ℕ) × (other : Placed) × (slice_get (placed ∷ items) k ≡ Some other) × Contains (edge_targets other.instruction) t
    by (inl here) later = (0, placed, refl, is_followed placed.instruction.operation (edge_targets placed.instruction) t here)
    by (inr more) later = let at = later more in (suc at.0, at.1, at.2, at.3)

module _ (function : FunctionView) where
  abbrev size : ℕ → ℕ
  size b = length (function.blocks b).items

  abbrev Walks : List (Place ℕ) → Type 0
  Walks path = IsPath (function_flow function) path

  -- what is given or led to at a place is so within its block
  pub gives_inside : (p : Place ℕ) (v : ℕ) → Contains (placed_gives (placed_at function p)) v → p.index < length (function.blocks p.block).items
  gives_inside p v h = by (slice_get (function.blocks p.block).items p.index) refl h
    where
      by : (found : Option Placed) → slice_get (function.blocks p.block).items p.index ≡ found → Contains (placed_gives found) v → p.index < length (function.blocks p.block).items
      by None is gives = absurd (contains_none v gives)
      by (Some placed) is gives = slice_get_within (function.blocks p.block).items p.index placed is

  -- REACHED -------------------------------------------------------------------------------------------------------------

  pub block_of_path : (path : List (Place ℕ)) (p : Place ℕ) → Walks (p ∷ path) → IsReached function p.block
  block_of_path [] p start = inl start.0
  block_of_path (q ∷ path) p walk = by walk.0 (block_of_path path q walk.1)
    where
      by : Leads (function_flow function) q p → IsReached function q.block → IsReached function p.block
      by (inl next) reached = subst (λ b. IsReached function b) (sym next.0) reached
      by (inr edge) reached = inr (q, (path, walk.1), edge.0)

  pub inside_of_path : (path : List (Place ℕ)) (p : Place ℕ) → Walks (p ∷ path) → p.index < size p.block
  inside_of_path [] p start = let first = start.1.0 in let some = start.1.1 in omega (arith, first, some)
  inside_of_path (q ∷ path) p walk = by walk.0
    where
      by : Leads (function_flow function) q p → p.index < size p.block
      by (inl next) = next.2
      by (inr edge) = let first = edge.1.0 in let some = edge.1.1 in omega (arith, first, some)

  -- BACK ALONG A PATH ---------------------------------------------------------------------------------------------------

  one_back : (b k : ℕ) (path : List (Place ℕ)) → Walks (place_at b (suc k) ∷ path) → (later : List (Place ℕ)) × Walks (place_at b k ∷ later) × (length later < length path)
  one_back b k [] start = absurd (let first = start.1.0 in omega (arith, first))
  one_back b k (r ∷ later) walk = by walk.0
    where
      by : Leads (function_flow function) r (place_at b (suc k)) → (later' : List (Place ℕ)) × Walks (place_at b k ∷ later') × (length later' < length (r ∷ later))
      by (inl next) =
          let block : r.block ≡ b = sym next.0 in
          let index : r.index ≡ k = (let on = next.1 in omega (arith, on)) in
          let same : r ≡ place_at b k = λ i. record { block = block i; index = index i } in
          (later, subst (λ (p : Place ℕ). Walks (p ∷ later)) same walk.1, omega arith)
      by (inr edge) = absurd (let first = edge.1.0 in omega (arith, first))

  back_to : (j b k : ℕ) (path : List (Place ℕ)) → Walks (place_at b (j + k) ∷ path) → (later : List (Place ℕ)) × Walks (place_at b k ∷ later) × (length later ≤ length path)
  back_to zero b k path walk = (path, subst (λ (n : ℕ). Walks (place_at b n ∷ path)) (let e : 0 + k ≡ k = omega arith in e) walk, omega arith)
  back_to (suc j) b k path walk =
      let first = one_back b (j + k) path (subst (λ (n : ℕ). Walks (place_at b n ∷ path)) (let e : suc j + k ≡ suc (j + k) = omega arith in e) walk) in
      let more = back_to j b k first.0 first.1 in
      (more.0, more.1, (let shorter = first.2 in let short = more.2 in omega (arith, shorter, short)))

  back_along : (path : List (Place ℕ)) (p d : Place ℕ) → Walks (p ∷ path) → Contains path d → (later : List (Place ℕ)) × Walks (d ∷ later) × (length later < length path)
  back_along [] p d walk h = absurd (contains_none d h)
  back_along (r ∷ rest) p d walk h = by (contains_cases r d rest h) (back_along rest r d walk.1)
    where
      by : (r ≡ d) ⊎ Contains rest d → (Contains rest d → (later : List (Place ℕ)) × Walks (d ∷ later) × (length later < length rest))
          → (later : List (Place ℕ)) × Walks (d ∷ later) × (length later < length (r ∷ rest))
      by (inl same) next = (rest, subst (λ (q : Place ℕ). Walks (q ∷ rest)) same walk.1, omega arith)
      by (inr more) next = let found = next more in (found.0, found.1, (let short = found.2 in omega (arith, short)))

  -- No path comes to a place if each one that does has passed one of its block that stands no earlier: a shorter one would, too.
  pub never_twice : (d : Place ℕ) (b k : ℕ) → d.block ≡ b → k ≤ d.index → ((path : List (Place ℕ)) → Walks (place_at b k ∷ path) → Contains path d)
      → (n : ℕ) (path : List (Place ℕ)) → length path < n → Walks (place_at b k ∷ path) → ⊥
  never_twice d b k same below passes zero path short walk = absurd (omega (arith, short))
  never_twice d b k same below passes (suc n) path short walk =
      let found = back_along path (place_at b k) d walk (passes path walk) in
      let index : d.index ≡ (d.index - k) + k = omega (arith, below) in
      let there : d ≡ place_at b ((d.index - k) + k) = λ i. record { block = same i; index = index i } in
      let again = back_to (d.index - k) b k found.0 (subst (λ (q : Place ℕ). Walks (q ∷ found.0)) there found.1) in
      never_twice d b k same below passes n again.0 (let shorter = found.2 in let more = again.2 in omega (arith, short, shorter, more)) again.1

  -- DOMINATION ----------------------------------------------------------------------------------------------------------

  -- a path to the place through these blocks alone
  abbrev PathWithin : List ℕ → Place ℕ → Type 0
  PathWithin blocks p = (path : List (Place ℕ)) × Walks (p ∷ path) × ((q : Place ℕ) → Contains (p ∷ path) q → Contains blocks q.block)

  more_within : (blocks : List ℕ) (p : Place ℕ) (path : List (Place ℕ)) → Contains blocks p.block → ((q : Place ℕ) → Contains path q → Contains blocks q.block)
      → (q : Place ℕ) → Contains (p ∷ path) q → Contains blocks q.block
  more_within blocks p path here rest q h =
      elim (contains_cases p q path h) [ inl same ↦ subst (λ (r : Place ℕ). Contains blocks r.block) same here | inr later ↦ rest q later ]

  along_block : (blocks : List ℕ) (b : ℕ) → Contains blocks b → PathWithin blocks (place_at b 0) → (k : ℕ) → k < size b → PathWithin blocks (place_at b k)
  along_block blocks b member front zero inside = front
  along_block blocks b member front (suc k) inside =
      let before = along_block blocks b member front k (omega (arith, inside)) in (
        place_at b k ∷ before.0,
        (inl (refl, one_on k, inside), before.1),
        more_within blocks (place_at b (suc k)) (place_at b k ∷ before.0) member before.2,
      )
    where
      one_on : (k : ℕ) → suc k ≡ k + 1
      one_on k = omega arith

  to_front : (way : List ℕ) (b : ℕ) → IsWay (followed_blocks function) function.entry (b ∷ way) → 0 < size b → PathWithin (b ∷ way) (place_at b 0)
  to_front [] b walk some =
      ([], (walk, (refl, some)), more_within (b ∷ []) (place_at b 0) [] (contains_first b []) (λ q h. absurd (contains_none q h)))
  to_front (a ∷ way) b walk some =
      let from = target_in (function.blocks a).items b walk.0 in
      let inside : from.0 < size a = slice_get_within (function.blocks a).items from.0 from.1 from.2 in
      let leads : Contains (placed_targets (placed_at function (place_at a from.0))) b = subst (λ (found : Option Placed). Contains (placed_targets found) b) (sym from.2) from.3 in
      let before = along_block (a ∷ way) a (contains_first a way) (to_front way a walk.1 (omega (arith, inside))) from.0 inside in (
        place_at a from.0 ∷ before.0,
        (inr (leads, (refl, some)), before.1),
        more_within (b ∷ a ∷ way) (place_at b 0) (place_at a from.0 ∷ before.0) (contains_first b (a ∷ way))
            (λ q h. contains_more b q.block (a ∷ way) (before.2 q h)),
      )

  -- where each path to a place passes a block, it dominates the place's block
  pub dominates : (other b k : ℕ) → k < length (function.blocks b).items
      → ((path : List (Place ℕ)) → IsPath (function_flow function) (place_at b k ∷ path) → (q : Place ℕ) × Contains (place_at b k ∷ path) q × (q.block ≡ other))
      → Dominates (followed_blocks function) function.entry other b
  dominates other b k inside passes = λ way walk.
      let path = along_block (b ∷ way) b (contains_first b way) (to_front way b walk (omega (arith, inside))) k inside in
      let passed = passes path.0 path.1 in
      subst (λ c. Contains (b ∷ way) c) passed.2 (path.2 passed.0 passed.1)
