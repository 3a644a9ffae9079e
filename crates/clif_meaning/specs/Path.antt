-- Paths: lists of places, each followed by the next one in its block or by the first place of a successor. The usual
-- definition of a path in a control flow graph, by instructions in place of blocks.
use Rattle.std.specs.Prelude.{◌≡◌, ℕ, ◌+◌, ◌<◌, ◌⊎◌, List, [], ◌∷◌, Option, Some, Contains}

-- an item of a block, counted from 0
pub record Place (Block : Type 0) : Type 0 where
  pub block : Block
  pub index : ℕ

-- the graph: the entry, how many items a block has, and the blocks that the edges of an item lead to
pub record Flow (Block : Type 0) : Type 0 where
  pub entry : Option Block
  pub size : Block → ℕ
  pub targets : Place Block → List Block

-- the place is the first one of its block
abbrev pub IsFirstPlace : {Block : Type 0} → Flow Block → Place Block → Type 0
IsFirstPlace flow p = (p.index ≡ 0) × (0 < flow.size p.block)

-- the next place of the same block
abbrev pub IsNextInBlock : {Block : Type 0} → Flow Block → Place Block → Place Block → Type 0
IsNextInBlock flow p q = (q.block ≡ p.block) × (q.index ≡ p.index + 1) × (q.index < flow.size q.block)

-- the first place of a successor
abbrev pub IsAtSuccessor : {Block : Type 0} → Flow Block → Place Block → Place Block → Type 0
IsAtSuccessor flow p q = Contains (flow.targets p) q.block × IsFirstPlace flow q

-- control may go from the one place to the other
abbrev pub Leads : {Block : Type 0} → Flow Block → Place Block → Place Block → Type 0
Leads flow p q = IsNextInBlock flow p q ⊎ IsAtSuccessor flow p q

-- the first place of the entry
abbrev pub IsStart : {Block : Type 0} → Flow Block → Place Block → Type 0
IsStart flow p = (flow.entry ≡ Some p.block) × IsFirstPlace flow p

-- a path from the entry, latest place first
abbrev pub IsPath : {Block : Type 0} → Flow Block → List (Place Block) → Type 0
IsPath flow [] = ⊥
IsPath flow (p ∷ []) = IsStart flow p
IsPath flow (q ∷ p ∷ path) = Leads flow p q × IsPath flow (p ∷ path)

-- on a path from the entry
abbrev pub IsReachable : {Block : Type 0} → Flow Block → Place Block → Type 0
IsReachable {Block} flow p = (path : List (Place Block)) × IsPath flow (p ∷ path)

-- every path from the entry that ends at the second place goes through the first one before
abbrev pub StrictlyBefore : {Block : Type 0} → Flow Block → Place Block → Place Block → Type 0
StrictlyBefore {Block} flow p q = (path : List (Place Block)) → IsPath flow (q ∷ path) → Contains path p
