-- What every function keeps.
-- Source: own, after the crate's documentation of its data flow graph and its layout.
use Rattle.std.specs.Prelude.{◌≡◌, ◌≢◌, ℕ, ◌<◌, ◌≤◌, ◌^◌, List, [], length, slice_index, None, is_some, count_by, All}
use Rattle.clif_tables.specs.Entries.{NamedExist}
use Rattle.clif_tables.specs.Lists.{TableLists, stack_map_at}
use Rattle.clif_nodes.specs.declared.nodes.ValueOrigin.{ValueOrigin}
use Rattle.clif_nodes.specs.declared.nodes.ValueOrigin.TheVariants.{Result, Param, Alias}
use Rattle.clif_nodes.specs.declared.nodes.ValueNode.{ValueNode}
use Rattle.clif_ir.specs.Body.{Body, value_at, inst_at, block_at, alias_of, alias_of_origin, follow}
use Rattle.clif_instructions.specs.declared.block_call.BlockCall.{BlockCall}
use Rattle.clif_instructions.specs.declared.block_call.BlockArg.{BlockArg}
use Rattle.clif_instructions.specs.declared.block_call.BlockArg.TheVariants as arg
use Rattle.clif_instructions.specs.Instruction.{EntryRef, ASlot, AConstant, ASignatureRef, AFunctionRef, contexts, entries_of, operands, destinations}
use Rattle.clif_instructions.specs.Members.{Stands, Once}

-- where value `v` comes from exists and knows `v`
abbrev pub IsOrigin : Body → ℕ → ValueOrigin → Type 0
IsOrigin f v (Result i k) =
    (i < length f.insts) × (k < length (inst_at f i).results) × (slice_index (inst_at f i).results k ≡ v)
IsOrigin f v (Param b) = (b < length f.blocks) × Stands v (block_at f b).params
IsOrigin f v (Alias original) = original < length f.values

-- how many values are aliases
abbrev pub alias_count : List ValueNode → ℕ
alias_count values = count_by (λ (n : ValueNode). is_some (alias_of_origin n.origin)) values

-- the target of an edge exists, and so do the values that it passes
abbrev pub PassedExists : Body → BlockArg → Type 0
PassedExists f (arg.Value v) = v < length f.values
PassedExists f (arg.TryCallRet k) = Unit {0}
PassedExists f (arg.TryCallExn k) = Unit {0}

abbrev pub EdgeExists : Body → BlockCall → Type 0
EdgeExists f edge = (edge.block < length f.blocks) × All (PassedExists f) edge.args

-- an entry that an instruction names exists
abbrev pub EntryExists : TableLists → EntryRef → Type 0
EntryExists tables (ASlot number) = number < length tables.stack_slots
EntryExists tables (AConstant number) = number < length tables.constants
EntryExists tables (ASignatureRef number) = number < length tables.signatures
EntryExists tables (AFunctionRef number) = number < length tables.functions

-- a value of the function
abbrev pub ValueExists : Body → ℕ → Type 0
ValueExists f v = v < length f.values

pub record IsConsistent (f : Body) : Type 0 where
  -- no table has more than 2^32 - 1 entries
  pub values_fit : length f.values < 2 ^ 32
  pub insts_fit : length f.insts < 2 ^ 32
  pub blocks_fit : length f.blocks < 2 ^ 32
  -- every value that is named exists, and it comes from where it says
  pub origins : (v : ℕ) → v < length f.values → IsOrigin f v (value_at f v).origin
  pub operands_exist : (i k : ℕ) → k < length (operands (inst_at f i).shape)
      → slice_index (operands (inst_at f i).shape) k < length f.values
  pub contexts_exist : (i : ℕ) → All (ValueExists f) (contexts (inst_at f i).shape)
  pub edges_exist : (i : ℕ) → All (EdgeExists f) (destinations (inst_at f i).shape)
  pub entries_exist : (i : ℕ) → All (EntryExists f.tables) (entries_of (inst_at f i).shape)
  -- results and parameters know their place
  pub results_known : (i k : ℕ) → k < length (inst_at f i).results
      → (slice_index (inst_at f i).results k < length f.values)
      × ((value_at f (slice_index (inst_at f i).results k)).origin ≡ Result i k)
  pub params_known : (b k : ℕ) → k < length (block_at f b).params
      → (slice_index (block_at f b).params k < length f.values)
      × ((value_at f (slice_index (block_at f b).params k)).origin ≡ Param b)
  pub params_once : (b : ℕ) → Once (block_at f b).params
  -- an instruction stands in one block, once
  pub insts_stand : (i : ℕ) → i < length f.insts
      → ((inst_at f i).block < length f.blocks) × Stands i (block_at f (inst_at f i).block).insts
  pub insts_known : (b k : ℕ) → k < length (block_at f b).insts
      → (slice_index (block_at f b).insts k < length f.insts)
      × ((inst_at f (slice_index (block_at f b).insts k)).block ≡ b)
  pub insts_once : (b : ℕ) → Once (block_at f b).insts
  -- a block stands in the layout at most once
  pub layout_exists : (k : ℕ) → k < length f.layout → slice_index f.layout k < length f.blocks
  pub layout_once : Once f.layout
  -- along aliases one reaches a value that is none, in no more steps than there are aliases
  pub aliases_end : (v : ℕ) → v < length f.values → alias_of f.values (follow (alias_count f.values) f.values v) ≡ None
  -- what the entries of tables name exists
  pub named_exist : NamedExist f.tables
  -- a stack map is kept of an instruction that exists
  pub maps_known : (i : ℕ) → length f.insts ≤ i → stack_map_at f.tables i ≡ []
  -- an instruction with edges has no results
  pub edges_without_results : (i : ℕ) → destinations (inst_at f i).shape ≢ [] → (inst_at f i).results ≡ []
