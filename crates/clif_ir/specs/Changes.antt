-- What each call that changes a function makes of it. Source: own.
use Rattle.std.specs.Prelude.{◌≡◌, ◌-◌, ◌^◌, ◌<◌, ◌⊎◌, ℕ, Option, List, [], ◌∷◌, ◌++◌, ◌+◌, ◌==◌, length, slice_set, if◌then◌else◌, true}
use Rattle.std.specs.List.{range_with_len}
use Rattle.clif_types.specs.declared.types.«Type».{«Type»}
use Rattle.clif_instructions.specs.declared.instructions.InstructionData.{InstructionData}
use Rattle.clif_instructions.specs.declared.instructions.InstructionData.TheVariants.{Load, Store}
use Rattle.clif_tables.specs.Lists.{TableLists}
use Rattle.clif_nodes.specs.declared.nodes.ValueOrigin.{ValueOrigin}
use Rattle.clif_nodes.specs.declared.nodes.ValueOrigin.TheVariants.{Result, Param, Alias}
use Rattle.clif_nodes.specs.declared.nodes.InstNode.{InstNode}
use Rattle.clif_instructions.specs.declared.insert_at.InsertAt.{InsertAt}
use Rattle.clif_instructions.specs.Instruction.{with_argument, with_targets_changed, with_context, with_edge, with_edge_argument, with_operand}
use Rattle.clif_instructions.specs.declared.block_call.BlockCall.{BlockCall}
use Rattle.clif_ir.specs.Body.{Body, block_at, inst_at, value_at, resolved}
use Rattle.clif_nodes.specs.Nodes.{empty_block, result_nodes}
use Rattle.clif_instructions.specs.Members.{put_at, without, stands_in}

-- with a new empty block
abbrev pub with_block : Body → Body
with_block f = record f { blocks = f.blocks ++ empty_block ∷ [] }

-- with block `b` at the end of the layout
abbrev pub with_layout : Body → ℕ → Body
with_layout f b = record f { layout = f.layout ++ b ∷ [] }

-- with block `b` at the end of the layout, unless it is in the layout
abbrev pub inserted_in : Body → ℕ → Body
inserted_in f b = if stands_in b f.layout then f else with_layout f b

-- a list with `x` behind its first `y`
abbrev pub put_behind : ℕ → ℕ → List ℕ → List ℕ
put_behind x y [] = []
put_behind x y (z ∷ zs) = if z == y then z ∷ x ∷ zs else z ∷ put_behind x y zs

-- with block `b` behind block `after` in the layout
abbrev pub with_layout_after : Body → ℕ → ℕ → Body
with_layout_after f b after = record f { layout = put_behind b after f.layout }

-- with block `b` cold
abbrev pub with_cold : Body → ℕ → Body
with_cold f b = record f { blocks = slice_set f.blocks b (record (block_at f b) { is_cold = true }) }

-- with a new parameter at the end of those of block `b`
abbrev pub with_param : Body → ℕ → «Type» → Body
with_param f b ty =
    record f {
      values = f.values ++ record { ty = ty; origin = Param b } ∷ [];
      blocks = slice_set f.blocks b (record (block_at f b) { params = (block_at f b).params ++ length f.values ∷ [] });
    }

-- There is no room for an instruction with so many results: the table of instructions holds 2^32 - 1 entries, or that of
-- values does, or it has fewer numbers left than there are results.
abbrev pub HasNoRoom : Body → ℕ → Type 0
HasNoRoom f count = (length f.insts ≡ 2 ^ 32 - 1) ⊎ ((length f.values ≡ 2 ^ 32 - 1) ⊎ (2 ^ 32 - 1 < length f.values + count))

-- the node of a new instruction whose results have these types
abbrev pub inst_node : Body → ℕ → InstructionData → List «Type» → ℕ → InstNode
inst_node f b shape types loc =
    record { shape = shape; results = range_with_len (length f.values) (length types); block = b; srcloc = loc }

-- with a new instruction at this place of block `b`
abbrev pub with_inst : Body → ℕ → InsertAt → InstructionData → List «Type» → ℕ → Body
with_inst f b at shape types loc =
    record f {
      values = f.values ++ result_nodes (length f.insts) 0 types;
      insts = f.insts ++ inst_node f b shape types loc ∷ [];
      blocks = slice_set f.blocks b (record (block_at f b) { insts = put_at at (length f.insts) (block_at f b).insts });
    }

-- with one more argument at the end of each edge of instruction `i` that goes to block `b`
abbrev pub with_branch_argument : Body → ℕ → ℕ → ℕ → Body
with_branch_argument f i b v =
    record f { insts = slice_set f.insts i (record (inst_at f i) { shape = with_argument b v (inst_at f i).shape }) }

-- with instruction `i` of this shape
abbrev pub with_shape : Body → ℕ → InstructionData → Body
with_shape f i shape = record f { insts = slice_set f.insts i (record (inst_at f i) { shape = shape }) }

-- with each edge of instruction `i` that went to block `from` going to block `to`
abbrev pub with_branch_target : Body → ℕ → ℕ → ℕ → Body
with_branch_target f i from to = with_shape f i (with_targets_changed from to (inst_at f i).shape)

-- with value `v` as the operand of instruction `i` at this place
abbrev pub with_operand_at : Body → ℕ → ℕ → ℕ → Body
with_operand_at f i place v = with_shape f i (with_operand place v (inst_at f i).shape)

-- with value `v` as what this edge of instruction `i` passes at this place
abbrev pub with_passed_argument : Body → ℕ → ℕ → ℕ → ℕ → Body
with_passed_argument f i edge place v = with_shape f i (with_edge_argument edge place v (inst_at f i).shape)

-- with this edge of instruction `i` being this one
abbrev pub with_edge_at : Body → ℕ → ℕ → BlockCall → Body
with_edge_at f i edge call = with_shape f i (with_edge edge call (inst_at f i).shape)

-- with value `v` as the context at this item of the exception table of instruction `i`
abbrev pub with_context_of : Body → ℕ → ℕ → ℕ → Body
with_context_of f i item v = with_shape f i (with_context item v (inst_at f i).shape)

-- an access that names this alias region, or none; another instruction stays
abbrev pub in_region : Option ℕ → InstructionData → InstructionData
in_region region (Load flags arg offset) = Load (record flags { alias_region = region }) arg offset
in_region region (Store flags args offset) = Store (record flags { alias_region = region }) args offset
in_region region shape = shape

-- with instruction `i` naming this alias region
abbrev pub with_alias_region : Body → ℕ → Option ℕ → Body
with_alias_region f i region = with_shape f i (in_region region (inst_at f i).shape)

-- the block of a value that is a parameter
abbrev pub home_of : ValueOrigin → ℕ
home_of (Result i k) = 0
home_of (Param b) = b
home_of (Alias original) = 0

-- with parameter `v` taken from its block and made another name of what `original` stands for
abbrev pub with_alias : Body → ℕ → ℕ → Body
with_alias f v original =
    let b : ℕ = home_of (value_at f v).origin in
    record f {
      values = slice_set f.values v (record (value_at f v) { origin = Alias (resolved f original) });
      blocks = slice_set f.blocks b (record (block_at f b) { params = without v (block_at f b).params });
    }

-- with these tables
abbrev pub with_tables : Body → TableLists → Body
with_tables f tables = record f { tables = tables }
