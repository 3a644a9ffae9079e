-- A function of `clif_ir` as the machines see it: its instructions in the one shape. Own.
use Rattle.std.specs.Prelude.{ℕ, ◌==◌, ◌-◌, if◌then◌else◌, List, [], ◌∷◌, drop, length, map, slice_get, slice_index_or}
use Rattle.std.specs.List.{list_any}
use Rattle.clif_types.specs.declared.types.«Type».{«Type»}
use Rattle.clif_types.specs.declared.types.«Type».TheVariants as type
use Rattle.clif_instructions.specs.declared.instructions.InstructionData.{InstructionData}
use Rattle.clif_instructions.specs.declared.instructions.InstructionData.TheVariants.{UnaryImm, UnaryIeee, UnaryConst, Unary, Binary, IntCompare, Concat, Split, Convert, Ternary, Load, Store, StackLoad, StackStore, Jump, Brif, BranchTable, MultiAry, Trap, CondTrap, Call, CallIndirect, TryCall, TryCallIndirect}
use Rattle.clif_nodes.specs.declared.nodes.InstNode.{InstNode}
use Rattle.clif_instructions.specs.declared.block_call.BlockArg.{BlockArg}
use Rattle.clif_instructions.specs.declared.block_call.BlockArg.TheVariants as arg
use Rattle.clif_instructions.specs.declared.block_call.BlockCall.{BlockCall}
use Rattle.clif_instructions.specs.Instruction.{contexts, operands, destinations, typing_of}
use Rattle.clif_opcodes.specs.declared.kinds.Control.{Control}
use Rattle.clif_opcodes.specs.declared.kinds.Control.TheVariants as control
use Rattle.clif_opcodes.specs.declared.kinds.ResultKind.{ResultKind}
use Rattle.clif_opcodes.specs.declared.kinds.ResultKind.TheVariants as kind
use Rattle.clif_instructions.specs.ExceptionTables.{ExceptionShape}
use Rattle.clif_instructions.specs.declared.exception_table.ExceptionItem.{ExceptionItem}
use Rattle.clif_instructions.specs.declared.exception_table.ExceptionItem.TheVariants as kept
use Rattle.clif_tables.specs.Callees.{function_at, signature_at}
use Rattle.clif_tables.specs.Lists.{TableLists, stack_map_at}
use Rattle.clif_meaning.specs.Event.{CallItem, Tag, Default, Context, CallShape}
use Rattle.clif_ir.specs.Body.{Body, value_at, inst_at, block_at, resolved}
use Rattle.clif_meaning.specs.Instruction.{Operation, Compute, Iconst, Return, Edge, Argument, Known, CallResult, CallPayload, Instruction}
use Rattle.clif_meaning.specs.Instruction as operation
use Rattle.clif_meaning.specs.FunctionView.{Placed, BlockView, FunctionView}

-- the bytes of a pooled constant
abbrev pub constant_at : TableLists → ℕ → List ℕ
constant_at tables constant = slice_index_or tables.constants constant []

-- an item of an exception table, its edge or context value aside, and what an answer to its call depends on
abbrev pub call_item_of : ExceptionItem → CallItem
call_item_of (kept.Tag tag) = Tag tag
call_item_of kept.Default = Default
call_item_of (kept.Context value) = Context

abbrev pub try_call_of : TableLists → ExceptionShape → CallShape
try_call_of tables table = record { signature = signature_at tables table.sig; items = map call_item_of table.items }

-- The table of instructions: what each one does, in a function with these tables,
abbrev pub operation_of : TableLists → InstructionData → Operation
operation_of tables (UnaryImm imm) = Compute (Iconst imm)
operation_of tables (UnaryIeee opcode bits) = Compute (operation.FloatConst opcode bits)
operation_of tables (UnaryConst opcode constant) = Compute (operation.PooledConst opcode (constant_at tables constant))
operation_of tables (Unary opcode arg) = Compute (operation.Unary opcode)
operation_of tables (Binary opcode args) = Compute (operation.Binary opcode)
operation_of tables (IntCompare condition args) = Compute (operation.Compare condition)
operation_of tables (Concat args) = Compute operation.Concat
operation_of tables (Split arg) = Compute operation.Split
operation_of tables (Convert opcode arg) = Compute (operation.Convert opcode)
operation_of tables (Ternary args) = Compute operation.Select
operation_of tables (Load flags arg offset) = operation.Load flags offset
operation_of tables (Store flags args offset) = operation.Store flags offset
operation_of tables (StackLoad opcode slot offset) = operation.Stack opcode slot offset
operation_of tables (StackStore arg slot offset) = operation.StackStore slot offset
operation_of tables (Jump destination) = operation.Jump
operation_of tables (Brif arg blocks) = operation.Brif
operation_of tables (BranchTable arg table) = operation.BrTable (length table - 1)
operation_of tables (MultiAry args) = Return
operation_of tables (Trap reason) = operation.Trap reason
operation_of tables (CondTrap opcode arg reason) = operation.CondTrap opcode reason
operation_of tables (Call function args) = operation.Call (function_at tables function).name (signature_at tables (function_at tables function).signature)
operation_of tables (CallIndirect sig args) = operation.CallIndirect (signature_at tables sig)
operation_of tables (TryCall function args table) = operation.TryCall (function_at tables function).name (try_call_of tables table)
operation_of tables (TryCallIndirect args table) = operation.TryCallIndirect (try_call_of tables table)

-- what an edge passes,
abbrev pub argument_of : BlockArg → Argument ℕ
argument_of (arg.Value value) = Known value
argument_of (arg.TryCallRet index) = CallResult index
argument_of (arg.TryCallExn index) = CallPayload index

-- an edge,
abbrev pub edge_of : BlockCall → Edge ℕ ℕ
edge_of call = record { target = call.block; arguments = map argument_of call.args }

-- and the edges of an instruction, in the order in which they are printed.
abbrev pub edges_of : InstructionData → List (Edge ℕ ℕ)
edges_of shape = map edge_of (destinations shape)

-- the type of the first of these values, if there is one
abbrev pub first_type : Body → List ℕ → «Type»
first_type body [] = type.Invalid
first_type body (value ∷ values) = (value_at body value).ty

-- the type that an instruction is made at, by its row of the typing table: that of its first result, if this has it, and
-- else that of the operand that tells it
abbrev pub controlled : Body → List ResultKind → Control → (operands results : List ℕ) → «Type»
controlled body (kind.Controlling ∷ kinds) how operands results = first_type body results
controlled body _ (control.Operand place) operands results = first_type body (drop place operands)
controlled body _ _ operands results = type.Invalid

abbrev pub controlling_of : Body → InstructionData → List ℕ → «Type»
controlling_of body shape results = controlled body (typing_of shape).results (typing_of shape).control (operands shape) results

-- the same before it is made, where a type is given with it
abbrev pub made_with : Body → List ResultKind → Control → (operands : List ℕ) → «Type» → «Type»
made_with body (kind.Controlling ∷ kinds) how operands ty = ty
made_with body _ (control.Operand place) operands ty = first_type body (drop place operands)
made_with body _ _ operands ty = type.Invalid

abbrev pub made_at : Body → InstructionData → «Type» → «Type»
made_at body shape ty = made_with body (typing_of shape).results (typing_of shape).control (operands shape) ty

-- an instruction
abbrev pub instruction_of : Body → InstNode → Instruction ℕ ℕ
instruction_of body node = record {
  operation = operation_of body.tables node.shape;
  controlling = controlling_of body node.shape node.results;
  operands = operands node.shape;
  contexts = contexts node.shape;
  edges = edges_of node.shape;
}

-- the instruction with this number, with its results and its stack map
abbrev pub placed_of : Body → ℕ → Placed
placed_of body inst = record {
  instruction = instruction_of body (inst_at body inst);
  results = (inst_at body inst).results;
  stack_map = stack_map_at body.tables inst;
}

-- the instructions of a block, in order. A block outside the layout is no part of the function, and has none.
abbrev pub items_of : Body → ℕ → List Placed
items_of body block =
    if list_any (λ other. other == block) body.layout then map (placed_of body) (block_at body block).insts else []

-- a block
abbrev pub block_of : Body → ℕ → BlockView
block_of body block = record { parameters = (block_at body block).params; items = items_of body block }

-- a function
abbrev pub view_of : Body → FunctionView
view_of body = record {
  signature = body.signature;
  entry = slice_get body.layout 0;
  blocks = block_of body;
  resolved = resolved body;
  value_type = λ value. (value_at body value).ty;
  slots = body.tables.stack_slots;
}
