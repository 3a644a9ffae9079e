-- The order in which a depth-first search from the entry leaves the blocks: each after all that were entered from it. Source: the
-- usual depth-first search, in post-order. As in Cranelift the first edge is followed first.
use Rattle.std.specs.Prelude.{◌≡◌, ◌≤◌, ℕ, List, [], ◌∷◌, ◌++◌, flat_map, Option, Some, None, Contains, slice_get}
use Rattle.clif_meaning.specs.FunctionView.{FunctionView, Placed}
use Rattle.clif_meaning.specs.Instruction.{Operation, TryCall, TryCallIndirect}
use Rattle.clif_meaning.specs.WellPlaced.{edge_targets}

-- EDGES -----------------------------------------------------------------------------------------------------------------

-- the first element at the back
abbrev pub first_to_back : {X : Type 0} → List X → List X
first_to_back [] = []
first_to_back (x ∷ xs) = xs ++ x ∷ []

-- Edges in the order in which they are followed: as an instruction has them, but for the normal edge of a try call, which is
-- followed after those of its items.
abbrev pub followed : {X : Type 0} → Operation → List X → List X
followed (TryCall name call) edges = first_to_back edges
followed (TryCallIndirect call) edges = first_to_back edges
followed _ edges = edges

-- the blocks to which the edges of an instruction lead, in that order
abbrev pub followed_targets : Placed → List ℕ
followed_targets placed = followed placed.instruction.operation (edge_targets placed.instruction)

-- the blocks to which the edges of a block lead, in that order and with repeats
abbrev pub followed_blocks : FunctionView → ℕ → List ℕ
followed_blocks function block = flat_map followed_targets (function.blocks block).items

-- SEARCHES --------------------------------------------------------------------------------------------------------------

-- the blocks that a search has entered, the latest first, and those that it has left, the latest last
pub record Visited : Type 0 where
  pub entered : List ℕ
  pub left : List ℕ

-- before a search
abbrev pub nothing_visited : Visited
nothing_visited = record { entered = []; left = [] }

abbrev pub with_entered : ℕ → Visited → Visited
with_entered block visited = record visited { entered = block ∷ visited.entered }

abbrev pub with_left : ℕ → Visited → Visited
with_left block visited = record visited { left = visited.left ++ block ∷ [] }

-- A depth-first search comes to blocks one after another, from what was visited before to what is visited after. A block that was
-- entered before it passes. Another one it enters, comes to each of the blocks to which that one leads, and leaves it.
pub data DepthFirst (leads : ℕ → List ℕ) : List ℕ → (before after : Visited) → Type 0 where
  Ends : (visited : Visited) → DepthFirst leads [] visited visited
  Passes : (block : ℕ) (blocks : List ℕ) (before after : Visited)
      → Contains before.entered block
      → DepthFirst leads blocks before after
      → DepthFirst leads (block ∷ blocks) before after
  Enters : (block : ℕ) (blocks : List ℕ) (before inside after : Visited)
      → (Contains before.entered block → ⊥)
      → DepthFirst leads (leads block) (with_entered block before) inside
      → DepthFirst leads blocks (with_left block inside) after
      → DepthFirst leads (block ∷ blocks) before after

-- the blocks as a depth-first search from the entry leaves them
abbrev pub IsDepthFirst : (leads : ℕ → List ℕ) (entry : Option ℕ) (order : List ℕ) → Type 0
IsDepthFirst leads None order = order ≡ []
IsDepthFirst leads (Some entry) order =
    (entered : List ℕ)
    × DepthFirst leads (entry ∷ []) nothing_visited (record { entered = entered; left = order })

-- DOMINATION ------------------------------------------------------------------------------------------------------------

-- a way from the entry, the latest block first
abbrev pub IsWay : (leads : ℕ → List ℕ) → Option ℕ → List ℕ → Type 0
IsWay leads entry [] = ⊥
IsWay leads entry (block ∷ []) = entry ≡ Some block
IsWay leads entry (block ∷ before ∷ way) =
    Contains (leads before) block × IsWay leads entry (before ∷ way)

-- every way from the entry to the block passes the other one, or that is the block
abbrev pub Dominates : (leads : ℕ → List ℕ) → Option ℕ → (other block : ℕ) → Type 0
Dominates leads entry other block =
    (way : List ℕ) → IsWay leads entry (block ∷ way) → Contains (block ∷ way) other

-- what dominates a block of the list is in it, and no earlier than the block
abbrev pub IsSorted : (leads : ℕ → List ℕ) → Option ℕ → List ℕ → Type 0
IsSorted leads entry order =
    (i block other : ℕ) → slice_get order i ≡ Some block → Dominates leads entry other block
    → (j : ℕ) × (i ≤ j) × (slice_get order j ≡ Some other)

-- blocks have one such order at most
abbrev pub HasOneOrder : Type 0
HasOneOrder =
    (leads : ℕ → List ℕ) (entry : Option ℕ) (order other : List ℕ)
    → IsDepthFirst leads entry order → IsDepthFirst leads entry other → order ≡ other
