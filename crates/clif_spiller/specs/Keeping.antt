-- What stays of a function as it is rewritten. Source: own.
use Rattle.std.specs.Prelude.{◌≡◌, ◌<◌, ◌≤◌, ◌++◌, ℕ, List, length, None, slice_get, slice_index_or}
use Rattle.clif_instructions.specs.Members.{Stands}
use Rattle.clif_nodes.specs.Nodes.{no_value}
use Rattle.clif_nodes.specs.declared.nodes.ValueNode.{ValueNode}
use Rattle.clif_types.specs.StackSlot.{StackSlotShape}
use Rattle.clif_ir.specs.Body.{Body, alias_of_origin, block_at, inst_at}

-- new values are no aliases
abbrev pub NoAliases : List ValueNode → Type 0
NoAliases values = (k : ℕ) → k < length values → alias_of_origin (slice_index_or values k no_value).origin ≡ None

-- Values, slots and instructions come to those that are there. Each old instruction keeps its results, its block and its source place,
-- each of the first so many blocks its parameters and whether it is cold; a block of the layout stays in it, and the tables stay but for
-- stack slots and stack maps.
pub record Keeps (count : ℕ) (f g : Body) : Type 0 where
  pub values : List ValueNode
  pub values_are : g.values ≡ f.values ++ values
  pub no_aliases : NoAliases values
  pub slots : List StackSlotShape
  pub slots_are : g.tables.stack_slots ≡ f.tables.stack_slots ++ slots
  pub tables : g.tables ≡ record f.tables { stack_slots = g.tables.stack_slots; stack_maps = g.tables.stack_maps }
  pub insts : length f.insts ≤ length g.insts
  pub results : (i : ℕ) → i < length f.insts → (inst_at g i).results ≡ (inst_at f i).results
  pub homes : (i : ℕ) → i < length f.insts → (inst_at g i).block ≡ (inst_at f i).block
  pub sources : (i : ℕ) → i < length f.insts → (inst_at g i).srcloc ≡ (inst_at f i).srcloc
  pub blocks : length f.blocks ≤ length g.blocks
  pub params : (b : ℕ) → b < count → (block_at g b).params ≡ (block_at f b).params
  pub cold : (b : ℕ) → b < count → (block_at g b).is_cold ≡ (block_at f b).is_cold
  pub layout : (b : ℕ) → Stands b f.layout → Stands b g.layout
  pub entry : slice_get g.layout 0 ≡ slice_get f.layout 0
  pub name : g.name ≡ f.name
  pub signature : g.signature ≡ f.signature
