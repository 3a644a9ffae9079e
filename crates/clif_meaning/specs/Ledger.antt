-- The ledger of a script: what its calls alone tell. Which answers there are and of which kind and type, the state of
-- each block, the layout, variables with their types, and which tables serve. The conditions on calls speak of it.
-- After the documentation of Cranelift's `FunctionBuilder`.
use Rattle.std.specs.Prelude.{ℕ, zero, suc, not, ◌&&◌, if◌then◌else◌, Bool, true, false, List, [], ◌∷◌, ◌++◌, length, map, fold, find, slice_get, slice_set, filter, filter_map, flat_map, Option, Some, None, option_and_then, option_map, is_some}
use Rattle.std.specs.List.{list_any}
use Rattle.clif_types.specs.declared.types.«Type».{«Type»}
use Rattle.clif_types.specs.declared.types.«Type».TheVariants as type
use Rattle.clif_tables.specs.Entries.{TableEntry, count_for, with_entry}
use Rattle.clif_tables.specs.Lists.{TableLists, no_entries}
use Rattle.clif_meaning.specs.Event.{CallItem, Context, Default, Tag}
use Rattle.clif_meaning.specs.Instruction.{Operation, operation_typing, Edge, Instruction}
use Rattle.clif_meaning.specs.Name.{Name, answer_of, same_name}
use Rattle.clif_meaning.specs.Request.{Request, CreateBlock, SwitchToBlock, SealBlock, SealAllBlocks, InsertBlockAfter, SetColdBlock, EnsureInsertedBlock, AppendBlockParams, AppendFunctionParams, DeclareVar, DefVar, UseVar, MakeEntry, MakeEdge, MakeJumpTable, MakeExceptionTable, Annotate, StackMapNeed, OfVariable, OfValue, NeedStackMap, GivenEntry, ServedBy, TriedBy, Imported, TableItem, TagTo, DefaultTo, InContext, Build, ChangeJumpDestination, Finalize, Script}
use Rattle.clif_meaning.specs.Program.{result_types}

-- what an answer is
pub data Answered : Type 0 where
  ABlock : Answered
  AVariable : (variable : ℕ) → Answered
  AValue : (ty : «Type») → Answered
  AnInstruction : Answered
  -- an entry of a table, with this number there
  AnEntry : TableEntry → (number : ℕ) → Answered
  AnEdge : Edge Name Name → Answered
  -- a jump table, with this number
  AJumpTable : (number : ℕ) → Answered
  -- an exception table, with this number
  AnExceptionTable : (number : ℕ) → Answered

-- a block: pristine until something is made in it, filled once it has its terminator, sealed once it was told that no
-- more branches to it come
pub record BlockState : Type 0 where
  pub block : Name
  -- the types of the caller's parameters
  pub parameters : List «Type»
  pub is_pristine : Bool
  pub is_filled : Bool
  pub is_sealed : Bool
  -- marked as cold
  pub is_cold : Bool
  -- the branches that were declared as its predecessors, each once
  pub predecessors : List Name

pub record VariableState : Type 0 where
  pub ty : «Type»
  -- marked as tracked
  pub is_marked : Bool
  -- used or assigned so far
  pub is_touched : Bool

-- an exception table: the number of its signature, its edges, the normal one first, its items, and the names of its contexts
pub record ExceptionTable : Type 0 where
  pub signature : ℕ
  pub edges : List (Edge Name Name)
  pub items : List CallItem
  pub contexts : List Name

pub record Ledger : Type 0 where
  -- the answers to each call, by its place
  pub answers : List (List Answered)
  -- in the order in which they were created
  pub blocks : List BlockState
  pub current : Option Name
  -- the blocks in the layout, in order: the first one is the entry
  pub layout : List Name
  -- by their numbers
  pub variables : List VariableState
  -- the edges of each jump table, by number: none once it serves an instruction
  pub jump_tables : List (Option (List (Edge Name Name)))
  -- the exception tables, by number: none once it serves an instruction
  pub exception_tables : List (Option ExceptionTable)
  -- stack slots, signatures, functions and so on
  pub tables : TableLists

-- before the first call
abbrev pub empty_ledger : Ledger
empty_ledger = record { answers = []; blocks = []; current = None; layout = []; variables = []; jump_tables = []; exception_tables = []; tables = no_entries }

-- how many stack slots the calls created: those with higher numbers are spill slots
abbrev pub slot_count : Ledger → ℕ
slot_count ledger = length ledger.tables.stack_slots

-- the answer with this name
abbrev pub answer_at : Ledger → Name → Option Answered
answer_at ledger name = option_and_then (λ answers. slice_get answers name.index) (slice_get ledger.answers name.place)

-- the type of a value, if the answer is one
abbrev pub value_answer_type : Option Answered → Option «Type»
value_answer_type (Some (AValue ty)) = Some ty
value_answer_type _ = None

-- the type of the value with this name, if there is one
abbrev pub type_of : Ledger → Name → Option «Type»
type_of ledger name = value_answer_type (answer_at ledger name)

abbrev pub or_invalid : Option «Type» → «Type»
or_invalid None = type.Invalid
or_invalid (Some ty) = ty

abbrev pub has_value : Ledger → Name → Bool
has_value ledger name = is_some (type_of ledger name)

-- the edge that an answer is
abbrev pub answered_edge : Option Answered → Option (Edge Name Name)
answered_edge (Some (AnEdge edge)) = Some edge
answered_edge _ = None

-- the edge with this name, if there is one
abbrev pub edge_named : Ledger → Name → Option (Edge Name Name)
edge_named ledger name = answered_edge (answer_at ledger name)

-- the edges with these names
abbrev pub edges_named : Ledger → List Name → List (Edge Name Name)
edges_named ledger names = filter_map (edge_named ledger) names

-- the edges of the jump table with this number, if there is one that serves no instruction so far
abbrev pub unserved_edges : Ledger → ℕ → Option (List (Edge Name Name))
unserved_edges ledger table = option_and_then (λ edges. edges) (slice_get ledger.jump_tables table)

-- the exception table with this number, if there is one that serves no instruction so far
abbrev pub unserved_exceptions : Ledger → ℕ → Option ExceptionTable
unserved_exceptions ledger table = option_and_then (λ held. held) (slice_get ledger.exception_tables table)

-- the name of an item's edge, if it has one
abbrev pub item_edge : TableItem → List Name
item_edge (TagTo tag edge) = edge ∷ []
item_edge (DefaultTo edge) = edge ∷ []
item_edge (InContext value) = []

-- an item as the answer to a call depends on it
abbrev pub item_kind : TableItem → CallItem
item_kind (TagTo tag edge) = Tag tag
item_kind (DefaultTo edge) = Default
item_kind (InContext value) = Context

-- the value that an item names, if it is a context
abbrev pub item_context : TableItem → List Name
item_context (TagTo tag edge) = []
item_context (DefaultTo edge) = []
item_context (InContext value) = value ∷ []

-- the names of a table's edges, the normal one first
abbrev pub edges_of_items : Name → List TableItem → List Name
edges_of_items normal items = normal ∷ flat_map item_edge items

-- the table of these parts, with the edges that they name
abbrev pub exception_table : Ledger → ℕ → Name → List TableItem → ExceptionTable
exception_table ledger signature normal items = record {
  signature = signature;
  edges = edges_named ledger (edges_of_items normal items);
  items = map item_kind items;
  contexts = flat_map item_context items;
}

-- the state of the block with this name, if there is one
abbrev pub block_state : Ledger → Name → Option BlockState
block_state ledger block = find (λ state. same_name state.block block) ledger.blocks

abbrev pub state_has : (BlockState → Bool) → Option BlockState → Bool
state_has test None = false
state_has test (Some state) = test state

abbrev pub has_block : Ledger → Name → Bool
has_block ledger block = is_some (block_state ledger block)

abbrev pub is_filled : Ledger → Name → Bool
is_filled ledger block = state_has (λ state. state.is_filled) (block_state ledger block)

abbrev pub is_sealed : Ledger → Name → Bool
is_sealed ledger block = state_has (λ state. state.is_sealed) (block_state ledger block)

abbrev pub is_pristine : Ledger → Name → Bool
is_pristine ledger block = state_has (λ state. state.is_pristine) (block_state ledger block)

abbrev pub is_empty : {X : Type 0} → List X → Bool
is_empty [] = true
is_empty (x ∷ xs) = false

abbrev pub has_predecessors : Ledger → Name → Bool
has_predecessors ledger block = state_has (λ state. not (is_empty state.predecessors)) (block_state ledger block)

-- the answer is an instruction
abbrev pub is_instruction_answer : Option Answered → Bool
is_instruction_answer (Some AnInstruction) = true
is_instruction_answer _ = false

abbrev pub has_instruction : Ledger → Name → Bool
has_instruction ledger name = is_instruction_answer (answer_at ledger name)

-- the branch was declared as a predecessor of the block
abbrev pub leads_to : Ledger → Name → Name → Bool
leads_to ledger branch block = state_has (λ state. list_any (same_name branch) state.predecessors) (block_state ledger block)

-- the first block of the layout is this one
abbrev pub begins_with : List Name → Name → Bool
begins_with [] block = false
begins_with (entry ∷ layout) block = same_name entry block

abbrev pub is_inserted : Ledger → Name → Bool
is_inserted ledger block = list_any (same_name block) ledger.layout

-- some block is in the layout, and this one isn't the entry, is sealed and has no predecessor
abbrev pub is_unreachable : Ledger → Name → Bool
is_unreachable ledger block =
    not (is_empty ledger.layout) && not (begins_with ledger.layout block) && is_sealed ledger block && not (has_predecessors ledger block)

abbrev pub variable_state : Ledger → ℕ → Option VariableState
variable_state ledger variable = slice_get ledger.variables variable

-- the type of a variable, if it was declared
abbrev pub variable_type : Ledger → ℕ → Option «Type»
variable_type ledger variable = option_map (λ state. state.ty) (variable_state ledger variable)

abbrev pub marked : Option VariableState → Bool
marked None = false
marked (Some state) = state.is_marked

abbrev pub is_marked : Ledger → ℕ → Bool
is_marked ledger variable = marked (variable_state ledger variable)

-- the state of one block changed
abbrev pub with_state : Ledger → Name → (BlockState → BlockState) → Ledger
with_state ledger block change =
    record ledger { blocks = map (λ state. if same_name state.block block then change state else state) ledger.blocks }

-- at the end of the layout, unless it is there
abbrev pub with_layout : Ledger → Name → Ledger
with_layout ledger block = if is_inserted ledger block then ledger else record ledger { layout = ledger.layout ++ block ∷ [] }

-- a block in which something was made: it is pristine no more, and in the layout
abbrev pub with_begun_at : Ledger → Option Name → Ledger
with_begun_at ledger None = ledger
with_begun_at ledger (Some block) = with_state (with_layout ledger block) block (λ state. record state { is_pristine = false })

-- something was made in the current block
abbrev pub with_begun : Ledger → Ledger
with_begun ledger = with_begun_at ledger ledger.current

abbrev pub with_filled_at : Ledger → Option Name → Ledger
with_filled_at ledger None = ledger
with_filled_at ledger (Some block) = with_state ledger block (λ state. record state { is_filled = true })

-- the operation ends its block
abbrev pub is_terminator : Operation → Bool
is_terminator operation = (operation_typing operation).ends

-- a terminator fills the current block
abbrev pub with_terminator : Ledger → Operation → Ledger
with_terminator ledger operation = if is_terminator operation then with_filled_at ledger ledger.current else ledger

-- a branch behind those that lead to a block, unless it is one of them
abbrev pub led_by : Name → BlockState → BlockState
led_by branch state =
    if list_any (same_name branch) state.predecessors then state else record state { predecessors = state.predecessors ++ branch ∷ [] }

-- a branch is a predecessor of each block that one of its edges leads to, once
abbrev pub with_predecessor : Name → Ledger → Edge Name Name → Ledger
with_predecessor branch ledger edge = with_state ledger edge.target (led_by branch)

-- the variable with this number was used or assigned
abbrev pub touched_at : ℕ → List VariableState → List VariableState
touched_at variable [] = []
touched_at zero (state ∷ states) = record state { is_touched = true } ∷ states
touched_at (suc variable) (state ∷ states) = state ∷ touched_at variable states

abbrev pub with_touched : Ledger → ℕ → Ledger
with_touched ledger variable = record ledger { variables = touched_at variable ledger.variables }

-- the variable with this number is marked
abbrev pub marked_at : ℕ → List VariableState → List VariableState
marked_at variable [] = []
marked_at zero (state ∷ states) = record state { is_marked = true } ∷ states
marked_at (suc variable) (state ∷ states) = state ∷ marked_at variable states

-- the variables, once stack maps are asked for this
abbrev pub with_need : StackMapNeed → List VariableState → List VariableState
with_need (OfVariable variable) states = marked_at variable states
with_need (OfValue value) states = states

-- What each kind of call answers.
abbrev pub answers_to : Ledger → Request → List Answered
answers_to ledger CreateBlock = ABlock ∷ []
answers_to ledger (SwitchToBlock block) = []
answers_to ledger (SealBlock block) = []
answers_to ledger SealAllBlocks = []
answers_to ledger (InsertBlockAfter block after) = []
answers_to ledger (SetColdBlock block) = []
answers_to ledger EnsureInsertedBlock = []
answers_to ledger (AppendBlockParams block types) = map AValue types
answers_to ledger (AppendFunctionParams block types) = map AValue types
answers_to ledger (DeclareVar ty) = AVariable (length ledger.variables) ∷ []
answers_to ledger (DefVar variable value) = []
answers_to ledger (UseVar variable) = AValue (or_invalid (variable_type ledger variable)) ∷ []
answers_to ledger (MakeEntry entry) = AnEntry entry (count_for ledger.tables entry) ∷ []
answers_to ledger (MakeEdge edge) = AnEdge edge ∷ []
answers_to ledger (MakeJumpTable default entries) = AJumpTable (length ledger.jump_tables) ∷ []
answers_to ledger (MakeExceptionTable signature normal items) = AnExceptionTable (length ledger.exception_tables) ∷ []
answers_to ledger (Annotate inside values) = []
answers_to ledger (NeedStackMap need) = []
answers_to ledger (Build entries instruction) = AnInstruction ∷ map AValue (result_types instruction.operation instruction.controlling)
answers_to ledger (ChangeJumpDestination branch from to) = []
answers_to ledger Finalize = []

-- the name of the first answer to the next call
abbrev pub next_answer : Ledger → Name
next_answer ledger = answer_of (length ledger.answers) 0

-- a new block: no branch to it, nothing in it
abbrev pub new_block : Name → BlockState
new_block block = record { block = block; parameters = []; is_pristine = true; is_filled = false; is_sealed = false; is_cold = false; predecessors = [] }

abbrev pub new_variable : «Type» → VariableState
new_variable ty = record { ty = ty; is_marked = false; is_touched = false }

-- no more branches to the block come
abbrev pub sealed : BlockState → BlockState
sealed state = record state { is_sealed = true }

-- the block is marked as cold
abbrev pub with_cold_mark : BlockState → BlockState
with_cold_mark state = record state { is_cold = true }

-- more parameters of the caller's, of these types
abbrev pub with_parameter_types : List «Type» → BlockState → BlockState
with_parameter_types types state = record state { parameters = state.parameters ++ types }

-- a list with a block behind another one
abbrev pub put_after : Name → Name → List Name → List Name
put_after block after [] = []
put_after block after (other ∷ layout) = if same_name other after then other ∷ block ∷ layout else other ∷ put_after block after layout

-- an instruction in the current block
abbrev pub with_instruction : Ledger → Instruction Name Name → Ledger
with_instruction ledger instruction =
    fold (with_predecessor (next_answer ledger)) (with_terminator (with_begun ledger) instruction.operation) instruction.edges

-- it leads no longer to the block; the others keep their order
abbrev pub left_by : Name → BlockState → BlockState
left_by branch state = record state { predecessors = filter (λ other. not (same_name branch other)) state.predecessors }

-- a branch leads to one block in place of another one; where both are one block nothing changes
abbrev pub redirected_state : (branch from to : Name) → BlockState → BlockState
redirected_state branch from to state =
    if same_name from to then state
    else (if same_name state.block from then left_by branch state
    else (if same_name state.block to then led_by branch state else state))

-- each jump table that an instruction is given serves it
abbrev pub with_served : List (Option (List (Edge Name Name))) → List GivenEntry → List (Option (List (Edge Name Name)))
with_served tables [] = tables
with_served tables (ServedBy table ∷ entries) = with_served (slice_set tables table None) entries
with_served tables (TriedBy table ∷ entries) = with_served tables entries
with_served tables (Imported entry ∷ entries) = with_served tables entries

-- and each exception table
abbrev pub with_tried : List (Option ExceptionTable) → List GivenEntry → List (Option ExceptionTable)
with_tried tables [] = tables
with_tried tables (ServedBy table ∷ entries) = with_tried tables entries
with_tried tables (TriedBy table ∷ entries) = with_tried (slice_set tables table None) entries
with_tried tables (Imported entry ∷ entries) = with_tried tables entries

-- What each kind of call changes, its answers aside.
abbrev pub changed_by : Ledger → Request → Ledger
changed_by ledger CreateBlock = record ledger { blocks = ledger.blocks ++ new_block (next_answer ledger) ∷ [] }
changed_by ledger (SwitchToBlock block) = record ledger { current = Some block }
changed_by ledger (SealBlock block) = with_state ledger block sealed
changed_by ledger SealAllBlocks = record ledger { blocks = map sealed ledger.blocks }
changed_by ledger (InsertBlockAfter block after) = record ledger { layout = put_after block after ledger.layout }
changed_by ledger (SetColdBlock block) = with_state ledger block with_cold_mark
changed_by ledger EnsureInsertedBlock = with_begun ledger
changed_by ledger (AppendBlockParams block types) = with_state ledger block (with_parameter_types types)
changed_by ledger (AppendFunctionParams block types) = with_state ledger block (with_parameter_types types)
changed_by ledger (DeclareVar ty) = record ledger { variables = ledger.variables ++ new_variable ty ∷ [] }
changed_by ledger (DefVar variable value) = with_touched ledger variable
changed_by ledger (UseVar variable) = with_touched (with_begun ledger) variable
changed_by ledger (MakeEntry entry) = record ledger { tables = with_entry ledger.tables entry }
changed_by ledger (MakeEdge edge) = ledger
changed_by ledger (MakeJumpTable default entries) =
    record ledger { jump_tables = ledger.jump_tables ++ Some (edges_named ledger (default ∷ entries)) ∷ [] }
changed_by ledger (MakeExceptionTable signature normal items) =
    record ledger { exception_tables = ledger.exception_tables ++ Some (exception_table ledger signature normal items) ∷ [] }
changed_by ledger (Annotate inside values) = ledger
changed_by ledger (NeedStackMap need) = record ledger { variables = with_need need ledger.variables }
changed_by ledger (Build entries instruction) =
    record (with_instruction ledger instruction) {
      jump_tables = with_served ledger.jump_tables entries;
      exception_tables = with_tried ledger.exception_tables entries;
    }
changed_by ledger (ChangeJumpDestination branch from to) =
    record ledger { blocks = map (redirected_state branch from to) ledger.blocks }
changed_by ledger Finalize = ledger

-- the ledger with one more call
abbrev pub ledger_with : Ledger → Request → Ledger
ledger_with ledger request = record (changed_by ledger request) { answers = ledger.answers ++ answers_to ledger request ∷ [] }

-- the ledger of a script
abbrev pub ledger_after : Script → Ledger
ledger_after script = fold ledger_with empty_ledger script
