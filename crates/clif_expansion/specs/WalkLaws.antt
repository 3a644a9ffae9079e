-- Laws of walks, for code that is still being written: generated blocks are filled one by one.
use Rattle.std.specs.Prelude.{◌≡◌, ◌+◌, ℕ, List, ◌++◌}
use Rattle.clif_meaning.specs.Bits.{Bits}
use Rattle.clif_meaning.specs.Name.{Name}
use Rattle.clif_meaning.specs.Program.{Item}
use Rattle.clif_expansion.specs.Walk.{IsGenerated, Surroundings, Walk}

-- What one walks through later: in the same world names have the same types and generated names stay so; there may be more of
-- them, and more items at the end of their blocks.
pub record Extends (around later : Surroundings) : Type 0 where
  pub world : later.world ≡ around.world
  pub generated : (x : Name) → IsGenerated around.reading x → IsGenerated later.reading x
  pub types : (x : Name) → later.types x ≡ around.types x
  pub items : (block : Name) → IsGenerated around.reading block → (more : List Item) × (later.program.items block ≡ around.program.items block ++ more)

pub record WalksGoOn : Type 0 where
  -- A walk to a generated block goes on through its code.
  pub through : (around : Surroundings) (between block : Name) (items : List Item) (before middle after : Name → Bits) (branches tables more_branches more_tables : ℕ)
      → Walk around between items before middle branches tables → IsGenerated around.reading between
      → Walk around block (around.program.items between) middle after more_branches more_tables
      → Walk around block items before after (branches + more_branches) (tables + more_tables)
  -- What is written behind code and behind generated blocks, and what is generated later, leaves walks.
  pub kept : (around later : Surroundings) (block : Name) (items more : List Item) (before after : Name → Bits) (branches tables : ℕ)
      → Extends around later → Walk around block items before after branches tables → Walk later block (items ++ more) before after branches tables
