-- A graph as the lists of the blocks to which each block leads. Source: own; the usual words of graphs.
use Rattle.std.specs.Prelude.{◌<◌, ◌==◌, ℕ, List, [], ◌∷◌, length, map, flat_map, Option, All, Contains, slice_index_or}
use Rattle.std.specs.List.{filter}
use Rattle.clif_instructions.specs.Members.{Once}
use Rattle.clif_safepoints.specs.Order.{IsDepthFirst, IsSorted, IsWay}

-- the blocks to which a block leads
abbrev pub leads_to : List (List ℕ) → ℕ → List ℕ
leads_to graph block = slice_index_or graph block []

-- each block to which one leads is there
abbrev pub IsClosed : List (List ℕ) → Type 0
IsClosed graph = (block : ℕ) → All (λ target. target < length graph) (leads_to graph block)

-- the blocks to which ways from the entry lead, each once, as a depth-first search leaves them
pub record IsOrder (graph : List (List ℕ)) (entry : Option ℕ) (order : List ℕ) : Type 0 where
  pub once : Once order
  pub exist : All (λ block. block < length graph) order
  pub reached : (block : ℕ) → Contains order block → (way : List ℕ) × IsWay (leads_to graph) entry (block ∷ way)
  pub all : (block : ℕ) (way : List ℕ) → IsWay (leads_to graph) entry (block ∷ way) → Contains order block
  pub depth_first : IsDepthFirst (leads_to graph) entry order
  pub sorted : IsSorted (leads_to graph) entry order

-- the block, as often as it leads to the target
abbrev pub arcs : List (List ℕ) → ℕ → ℕ → List ℕ
arcs graph target block = map (λ x. block) (filter (λ x. x == target) (leads_to graph block))

-- the blocks of `order` that lead to the target, each as often as it does
abbrev pub sources_of : List (List ℕ) → List ℕ → ℕ → List ℕ
sources_of graph order target = flat_map (arcs graph target) order
