-- The table of instructions: operands, results, and which ones end a block.
-- Source: own, after the crate's instruction set.
use Rattle.std.specs.Prelude.{ℕ, Bool, true, false, List, [], ◌∷◌, Option, Some, None, length, map, is_some, slice_get, slice_index_or, slice_set}
use Rattle.clif_types.specs.declared.types.«Type».{«Type»}
use Rattle.clif_types.specs.declared.types.«Type».TheVariants.{Invalid}
use Rattle.clif_opcodes.specs.declared.opcodes.Opcode.{Opcode}
use Rattle.clif_opcodes.specs.declared.opcodes.Opcode.TheVariants as opcode
use Rattle.clif_opcodes.specs.Kinds.{result_type}
use Rattle.clif_opcodes.specs.Typing.{Row, row_of}
use Rattle.clif_instructions.specs.declared.block_call.BlockCall.{BlockCall}
use Rattle.clif_instructions.specs.Edges.{appended_to, with_argument_to, redirected, with_target_changed, with_passed, with_passed_at}
use Rattle.clif_instructions.specs.ExceptionTables.{ExceptionShape, contexts_of, with_context_at}
use Rattle.clif_instructions.specs.declared.exception_table.ExceptionItem.{ExceptionItem}
use Rattle.clif_instructions.specs.declared.instructions.InstructionData.{InstructionData}
use Rattle.clif_instructions.specs.declared.instructions.InstructionData.TheVariants.{UnaryImm, UnaryIeee, UnaryConst, Unary, Binary, IntCompare, Concat, Split, Convert, Ternary, Load, Store, StackLoad, StackStore, Jump, Brif, BranchTable, MultiAry, Trap, CondTrap, Call, CallIndirect, TryCall, TryCallIndirect}

-- the operands, as they are printed
abbrev pub operands : InstructionData → List ℕ
operands (UnaryImm imm) = []
operands (UnaryIeee opcode bits) = []
operands (UnaryConst opcode constant) = []
operands (Unary opcode arg) = arg ∷ []
operands (Binary opcode args) = args
operands (IntCompare cond args) = args
operands (Concat args) = args
operands (Split arg) = arg ∷ []
operands (Convert opcode arg) = arg ∷ []
operands (Ternary args) = args
operands (Load flags arg offset) = arg ∷ []
operands (Store flags args offset) = args
operands (StackLoad opcode slot offset) = []
operands (StackStore arg slot offset) = arg ∷ []
operands (Jump destination) = []
operands (Brif arg blocks) = arg ∷ []
operands (BranchTable arg table) = arg ∷ []
operands (MultiAry args) = args
operands (Trap code) = []
operands (CondTrap opcode arg code) = arg ∷ []
operands (Call function args) = args
operands (CallIndirect sig args) = args
operands (TryCall function args table) = args
operands (TryCallIndirect args table) = args

-- the edges, as they are printed
abbrev pub destinations : InstructionData → List BlockCall
destinations (Jump destination) = destination ∷ []
destinations (Brif arg blocks) = blocks
destinations (BranchTable arg table) = table
destinations (TryCall function args table) = table.edges
destinations (TryCallIndirect args table) = table.edges
destinations _ = []

-- the exception table, if it has one
abbrev pub exception_table : InstructionData → Option ExceptionShape
exception_table (TryCall function args table) = Some table
exception_table (TryCallIndirect args table) = Some table
exception_table _ = None

-- the values that it names beside these: the contexts of a try call, of any type
abbrev pub contexts : InstructionData → List ℕ
contexts (TryCall function args table) = contexts_of table
contexts (TryCallIndirect args table) = contexts_of table
contexts _ = []

-- an exception table with these edges
abbrev pub with_edges : List BlockCall → ExceptionShape → ExceptionShape
with_edges edges table = record table { edges = edges }

-- an instruction, of whose edges each that goes to the block passes this value as well, at the end
abbrev pub with_argument : ℕ → ℕ → InstructionData → InstructionData
with_argument block value (Jump destination) = Jump (appended_to block value destination)
with_argument block value (Brif arg blocks) = Brif arg (with_argument_to block value blocks)
with_argument block value (BranchTable arg table) = BranchTable arg (with_argument_to block value table)
with_argument block value (TryCall function args table) = TryCall function args (with_edges (with_argument_to block value table.edges) table)
with_argument block value (TryCallIndirect args table) = TryCallIndirect args (with_edges (with_argument_to block value table.edges) table)
with_argument block value shape = shape

-- an instruction, of whose edges each that went to the first block goes to the second
abbrev pub with_targets_changed : ℕ → ℕ → InstructionData → InstructionData
with_targets_changed from to (Jump destination) = Jump (redirected from to destination)
with_targets_changed from to (Brif arg blocks) = Brif arg (with_target_changed from to blocks)
with_targets_changed from to (BranchTable arg table) = BranchTable arg (with_target_changed from to table)
with_targets_changed from to (TryCall function args table) = TryCall function args (with_edges (with_target_changed from to table.edges) table)
with_targets_changed from to (TryCallIndirect args table) = TryCallIndirect args (with_edges (with_target_changed from to table.edges) table)
with_targets_changed from to shape = shape

-- an instruction, of whose edges this one passes this value at this place
abbrev pub with_edge_argument : ℕ → ℕ → ℕ → InstructionData → InstructionData
with_edge_argument edge place value (Jump destination) = Jump (with_passed place value destination)
with_edge_argument edge place value (Brif arg blocks) = Brif arg (with_passed_at edge place value blocks)
with_edge_argument edge place value (BranchTable arg table) = BranchTable arg (with_passed_at edge place value table)
with_edge_argument edge place value (TryCall function args table) = TryCall function args (with_edges (with_passed_at edge place value table.edges) table)
with_edge_argument edge place value (TryCallIndirect args table) = TryCallIndirect args (with_edges (with_passed_at edge place value table.edges) table)
with_edge_argument edge place value shape = shape

-- an instruction, of whose edges this one is this one
abbrev pub with_edge : ℕ → BlockCall → InstructionData → InstructionData
with_edge edge call (Jump destination) = Jump call
with_edge edge call (Brif arg blocks) = Brif arg (slice_set blocks edge call)
with_edge edge call (BranchTable arg table) = BranchTable arg (slice_set table edge call)
with_edge edge call (TryCall function args table) = TryCall function args (with_edges (slice_set table.edges edge call) table)
with_edge edge call (TryCallIndirect args table) = TryCallIndirect args (with_edges (slice_set table.edges edge call) table)
with_edge edge call shape = shape

-- the items of its exception table
abbrev pub items_of : InstructionData → List ExceptionItem
items_of (TryCall function args table) = table.items
items_of (TryCallIndirect args table) = table.items
items_of _ = []

-- an instruction, of whose items this one is this context
abbrev pub with_context : ℕ → ℕ → InstructionData → InstructionData
with_context item value (TryCall function args table) = TryCall function args (with_context_at item value table)
with_context item value (TryCallIndirect args table) = TryCallIndirect args (with_context_at item value table)
with_context item value shape = shape

-- an instruction whose operand at this place, of those that it has, is this value
abbrev pub with_operand : ℕ → ℕ → InstructionData → InstructionData
with_operand place value (Unary opcode arg) = Unary opcode value
with_operand place value (Binary opcode args) = Binary opcode (slice_set args place value)
with_operand place value (IntCompare cond args) = IntCompare cond (slice_set args place value)
with_operand place value (Concat args) = Concat (slice_set args place value)
with_operand place value (Split arg) = Split value
with_operand place value (Convert opcode arg) = Convert opcode value
with_operand place value (Ternary args) = Ternary (slice_set args place value)
with_operand place value (Load flags arg offset) = Load flags value offset
with_operand place value (Store flags args offset) = Store flags (slice_set args place value) offset
with_operand place value (StackStore arg slot offset) = StackStore value slot offset
with_operand place value (Brif arg blocks) = Brif value blocks
with_operand place value (BranchTable arg table) = BranchTable value table
with_operand place value (MultiAry args) = MultiAry (slice_set args place value)
with_operand place value (CondTrap opcode arg code) = CondTrap opcode value code
with_operand place value (Call function args) = Call function (slice_set args place value)
with_operand place value (CallIndirect sig args) = CallIndirect sig (slice_set args place value)
with_operand place value (TryCall function args table) = TryCall function (slice_set args place value) table
with_operand place value (TryCallIndirect args table) = TryCallIndirect (slice_set args place value) table
with_operand place value shape = shape

-- whether the instruction has edges
abbrev pub is_branch : InstructionData → Bool
is_branch (Jump destination) = true
is_branch (Brif arg blocks) = true
is_branch (BranchTable arg table) = true
is_branch (TryCall function args table) = true
is_branch (TryCallIndirect args table) = true
is_branch _ = false

-- whether it calls what a signature describes
abbrev pub is_call : InstructionData → Bool
is_call (Call function args) = true
is_call (CallIndirect sig args) = true
is_call (TryCall function args table) = true
is_call (TryCallIndirect args table) = true
is_call _ = false

-- the opcode
abbrev pub opcode_of : InstructionData → Opcode
opcode_of (UnaryImm imm) = opcode.Iconst
opcode_of (UnaryIeee name bits) = opcode.FloatConst name
opcode_of (UnaryConst name constant) = opcode.PooledConst name
opcode_of (Unary name arg) = opcode.Unary name
opcode_of (Binary name args) = opcode.Binary name
opcode_of (IntCompare cond args) = opcode.Icmp
opcode_of (Concat args) = opcode.Iconcat
opcode_of (Split arg) = opcode.Isplit
opcode_of (Convert name arg) = opcode.Convert name
opcode_of (Ternary args) = opcode.Select
opcode_of (Load flags arg offset) = opcode.Load
opcode_of (Store flags args offset) = opcode.Store
opcode_of (StackLoad name slot offset) = opcode.Stack name
opcode_of (StackStore arg slot offset) = opcode.StackStore
opcode_of (Jump destination) = opcode.Jump
opcode_of (Brif arg blocks) = opcode.Brif
opcode_of (BranchTable arg table) = opcode.BrTable
opcode_of (MultiAry args) = opcode.Return
opcode_of (Trap code) = opcode.Trap
opcode_of (CondTrap name arg code) = opcode.CondTrap name
opcode_of (Call function args) = opcode.Call
opcode_of (CallIndirect sig args) = opcode.CallIndirect
opcode_of (TryCall function args table) = opcode.TryCall
opcode_of (TryCallIndirect args table) = opcode.TryCallIndirect

-- its row of the typing table
abbrev pub typing_of : InstructionData → Row
typing_of shape = row_of (opcode_of shape)

-- whether the instruction ends its block
abbrev pub is_terminator : InstructionData → Bool
is_terminator shape = (typing_of shape).ends

-- whether the instruction has a result
abbrev pub has_result : InstructionData → Bool
has_result shape = is_some (slice_get (typing_of shape).results 0)

-- how many results it has
abbrev pub result_count : InstructionData → ℕ
result_count shape = length (typing_of shape).results

-- the types of the results, in order
abbrev pub result_types : InstructionData → «Type» → List «Type»
result_types shape ty = map (result_type ty) (typing_of shape).results

-- the type of the first result; the invalid type where there is none
abbrev pub result_type_of : InstructionData → «Type» → «Type»
result_type_of shape ty = slice_index_or (result_types shape ty) 0 Invalid

-- an entry of a table of the function, by its number there
pub data EntryRef : Type 0 where
  ASlot : (number : ℕ) → EntryRef
  AConstant : (number : ℕ) → EntryRef
  ASignatureRef : (number : ℕ) → EntryRef
  AFunctionRef : (number : ℕ) → EntryRef

-- the entries of tables that it names
abbrev pub entries_of : InstructionData → List EntryRef
entries_of (UnaryConst opcode constant) = AConstant constant ∷ []
entries_of (StackLoad opcode slot offset) = ASlot slot ∷ []
entries_of (StackStore arg slot offset) = ASlot slot ∷ []
entries_of (Call function args) = AFunctionRef function ∷ []
entries_of (CallIndirect sig args) = ASignatureRef sig ∷ []
entries_of (TryCall function args table) = AFunctionRef function ∷ ASignatureRef table.sig ∷ []
entries_of (TryCallIndirect args table) = ASignatureRef table.sig ∷ []
entries_of _ = []
