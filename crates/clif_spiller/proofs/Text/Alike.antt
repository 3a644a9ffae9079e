-- Instructions of which operands, edges or contexts are replaced do what they did.
use Rattle.std.proofs.Common.{◌≡◌, ◌∙◌, ◌<◌, ◌-◌, ℕ, zero, suc, List, [], ◌∷◌, length, map as each, set, flat_map, refl, sym, ap, arith}
use Rattle.std.specs.Prelude.{Some, slice_get}
use Rattle.clif_tables.specs.Lists.{TableLists}
use Rattle.clif_instructions.specs.Edges.{edge_at, with_passed}
use Rattle.clif_instructions.specs.ExceptionTables.{ExceptionShape, item_context}
use Rattle.clif_instructions.specs.Instruction.{contexts, destinations, exception_table, items_of, opcode_of, with_context, with_edge, with_edge_argument, with_operand}
use Rattle.clif_instructions.specs.declared.block_call.BlockCall.{BlockCall}
use Rattle.clif_instructions.specs.declared.exception_table.ExceptionItem.{ExceptionItem}
use Rattle.clif_instructions.specs.declared.exception_table.ExceptionItem.TheVariants as kept
use Rattle.clif_instructions.specs.declared.instructions.InstructionData.{InstructionData}
use Rattle.clif_instructions.specs.declared.instructions.InstructionData.TheVariants.{UnaryImm, UnaryIeee, UnaryConst, Unary, Binary, IntCompare, Concat, Split, Convert, Ternary, Load, Store, StackLoad, StackStore, Jump, Brif, BranchTable, MultiAry, Trap, CondTrap, Call, CallIndirect, TryCall, TryCallIndirect}
use Rattle.clif_meaning.specs.Event.{CallItem, CallShape}
use Rattle.clif_meaning.specs.Instruction as operation
use Rattle.clif_meaning.specs.Instruction.{Operation}
use Rattle.clif_meaning.specs.Typing.{call_shape}
use Rattle.clif_meaning.specs.View.{call_item_of, operation_of, try_call_of}
use Rattle.clif_tables.specs.Callees.{function_at, signature_at}
use Rattle.clif_spiller.specs.Text.{IsAlike, returned_type, table_type}
use Rattle.clif_spiller.proofs.Keeping.{length_set}

pub alike_same : (shape : InstructionData) → IsAlike shape shape
alike_same shape = record { opcode = refl; operation = λ t. refl }

pub alike_then : (x y z : InstructionData) → IsAlike x y → IsAlike y z → IsAlike x z
alike_then x y z first second = record { opcode = second.opcode ∙ first.opcode; operation = λ t. second.operation t ∙ first.operation t }

pub alike_by : (x y : InstructionData) → y ≡ x → IsAlike x y
alike_by x y same = record { opcode = ap opcode_of same; operation = λ t. ap (operation_of t) same }

pub alike_operand : (place v : ℕ) (shape : InstructionData) → IsAlike shape (with_operand place v shape)
alike_operand place v (UnaryImm imm) = record { opcode = refl; operation = λ t. refl }
alike_operand place v (UnaryIeee opcode bits) = record { opcode = refl; operation = λ t. refl }
alike_operand place v (UnaryConst opcode constant) = record { opcode = refl; operation = λ t. refl }
alike_operand place v (Unary opcode arg) = record { opcode = refl; operation = λ t. refl }
alike_operand place v (Binary opcode args) = record { opcode = refl; operation = λ t. refl }
alike_operand place v (IntCompare cond args) = record { opcode = refl; operation = λ t. refl }
alike_operand place v (Concat args) = record { opcode = refl; operation = λ t. refl }
alike_operand place v (Split arg) = record { opcode = refl; operation = λ t. refl }
alike_operand place v (Convert opcode arg) = record { opcode = refl; operation = λ t. refl }
alike_operand place v (Ternary args) = record { opcode = refl; operation = λ t. refl }
alike_operand place v (Load flags arg offset) = record { opcode = refl; operation = λ t. refl }
alike_operand place v (Store flags args offset) = record { opcode = refl; operation = λ t. refl }
alike_operand place v (StackLoad opcode slot offset) = record { opcode = refl; operation = λ t. refl }
alike_operand place v (StackStore arg slot offset) = record { opcode = refl; operation = λ t. refl }
alike_operand place v (Jump destination) = record { opcode = refl; operation = λ t. refl }
alike_operand place v (Brif arg blocks) = record { opcode = refl; operation = λ t. refl }
alike_operand place v (BranchTable arg table) = record { opcode = refl; operation = λ t. refl }
alike_operand place v (MultiAry args) = record { opcode = refl; operation = λ t. refl }
alike_operand place v (Trap code) = record { opcode = refl; operation = λ t. refl }
alike_operand place v (CondTrap opcode arg code) = record { opcode = refl; operation = λ t. refl }
alike_operand place v (Call function args) = record { opcode = refl; operation = λ t. refl }
alike_operand place v (CallIndirect sig args) = record { opcode = refl; operation = λ t. refl }
alike_operand place v (TryCall function args table) = record { opcode = refl; operation = λ t. refl }
alike_operand place v (TryCallIndirect args table) = record { opcode = refl; operation = λ t. refl }

pub alike_edge_argument : (edge place v : ℕ) (shape : InstructionData) → IsAlike shape (with_edge_argument edge place v shape)
alike_edge_argument edge place v (UnaryImm imm) = record { opcode = refl; operation = λ t. refl }
alike_edge_argument edge place v (UnaryIeee opcode bits) = record { opcode = refl; operation = λ t. refl }
alike_edge_argument edge place v (UnaryConst opcode constant) = record { opcode = refl; operation = λ t. refl }
alike_edge_argument edge place v (Unary opcode arg) = record { opcode = refl; operation = λ t. refl }
alike_edge_argument edge place v (Binary opcode args) = record { opcode = refl; operation = λ t. refl }
alike_edge_argument edge place v (IntCompare cond args) = record { opcode = refl; operation = λ t. refl }
alike_edge_argument edge place v (Concat args) = record { opcode = refl; operation = λ t. refl }
alike_edge_argument edge place v (Split arg) = record { opcode = refl; operation = λ t. refl }
alike_edge_argument edge place v (Convert opcode arg) = record { opcode = refl; operation = λ t. refl }
alike_edge_argument edge place v (Ternary args) = record { opcode = refl; operation = λ t. refl }
alike_edge_argument edge place v (Load flags arg offset) = record { opcode = refl; operation = λ t. refl }
alike_edge_argument edge place v (Store flags args offset) = record { opcode = refl; operation = λ t. refl }
alike_edge_argument edge place v (StackLoad opcode slot offset) = record { opcode = refl; operation = λ t. refl }
alike_edge_argument edge place v (StackStore arg slot offset) = record { opcode = refl; operation = λ t. refl }
alike_edge_argument edge place v (Jump destination) = record { opcode = refl; operation = λ t. refl }
alike_edge_argument edge place v (Brif arg blocks) = record { opcode = refl; operation = λ t. refl }
alike_edge_argument edge place v (BranchTable arg table) = record { opcode = refl; operation = λ t. ap (λ (n : ℕ). operation.BrTable (n - 1)) (length_set table edge (with_passed place v (edge_at table edge))) }
alike_edge_argument edge place v (MultiAry args) = record { opcode = refl; operation = λ t. refl }
alike_edge_argument edge place v (Trap code) = record { opcode = refl; operation = λ t. refl }
alike_edge_argument edge place v (CondTrap opcode arg code) = record { opcode = refl; operation = λ t. refl }
alike_edge_argument edge place v (Call function args) = record { opcode = refl; operation = λ t. refl }
alike_edge_argument edge place v (CallIndirect sig args) = record { opcode = refl; operation = λ t. refl }
alike_edge_argument edge place v (TryCall function args table) = record { opcode = refl; operation = λ t. refl }
alike_edge_argument edge place v (TryCallIndirect args table) = record { opcode = refl; operation = λ t. refl }

pub alike_edge : (edge : ℕ) (call : BlockCall) (shape : InstructionData) → IsAlike shape (with_edge edge call shape)
alike_edge edge call (UnaryImm imm) = record { opcode = refl; operation = λ t. refl }
alike_edge edge call (UnaryIeee opcode bits) = record { opcode = refl; operation = λ t. refl }
alike_edge edge call (UnaryConst opcode constant) = record { opcode = refl; operation = λ t. refl }
alike_edge edge call (Unary opcode arg) = record { opcode = refl; operation = λ t. refl }
alike_edge edge call (Binary opcode args) = record { opcode = refl; operation = λ t. refl }
alike_edge edge call (IntCompare cond args) = record { opcode = refl; operation = λ t. refl }
alike_edge edge call (Concat args) = record { opcode = refl; operation = λ t. refl }
alike_edge edge call (Split arg) = record { opcode = refl; operation = λ t. refl }
alike_edge edge call (Convert opcode arg) = record { opcode = refl; operation = λ t. refl }
alike_edge edge call (Ternary args) = record { opcode = refl; operation = λ t. refl }
alike_edge edge call (Load flags arg offset) = record { opcode = refl; operation = λ t. refl }
alike_edge edge call (Store flags args offset) = record { opcode = refl; operation = λ t. refl }
alike_edge edge call (StackLoad opcode slot offset) = record { opcode = refl; operation = λ t. refl }
alike_edge edge call (StackStore arg slot offset) = record { opcode = refl; operation = λ t. refl }
alike_edge edge call (Jump destination) = record { opcode = refl; operation = λ t. refl }
alike_edge edge call (Brif arg blocks) = record { opcode = refl; operation = λ t. refl }
alike_edge edge call (BranchTable arg table) = record { opcode = refl; operation = λ t. ap (λ (n : ℕ). operation.BrTable (n - 1)) (length_set table edge call) }
alike_edge edge call (MultiAry args) = record { opcode = refl; operation = λ t. refl }
alike_edge edge call (Trap code) = record { opcode = refl; operation = λ t. refl }
alike_edge edge call (CondTrap opcode arg code) = record { opcode = refl; operation = λ t. refl }
alike_edge edge call (Call function args) = record { opcode = refl; operation = λ t. refl }
alike_edge edge call (CallIndirect sig args) = record { opcode = refl; operation = λ t. refl }
alike_edge edge call (TryCall function args table) = record { opcode = refl; operation = λ t. refl }
alike_edge edge call (TryCallIndirect args table) = record { opcode = refl; operation = λ t. refl }

pub contexts-with_operand : (place v : ℕ) (shape : InstructionData) → contexts (with_operand place v shape) ≡ contexts shape
contexts-with_operand place v (UnaryImm imm) = refl
contexts-with_operand place v (UnaryIeee opcode bits) = refl
contexts-with_operand place v (UnaryConst opcode constant) = refl
contexts-with_operand place v (Unary opcode arg) = refl
contexts-with_operand place v (Binary opcode args) = refl
contexts-with_operand place v (IntCompare cond args) = refl
contexts-with_operand place v (Concat args) = refl
contexts-with_operand place v (Split arg) = refl
contexts-with_operand place v (Convert opcode arg) = refl
contexts-with_operand place v (Ternary args) = refl
contexts-with_operand place v (Load flags arg offset) = refl
contexts-with_operand place v (Store flags args offset) = refl
contexts-with_operand place v (StackLoad opcode slot offset) = refl
contexts-with_operand place v (StackStore arg slot offset) = refl
contexts-with_operand place v (Jump destination) = refl
contexts-with_operand place v (Brif arg blocks) = refl
contexts-with_operand place v (BranchTable arg table) = refl
contexts-with_operand place v (MultiAry args) = refl
contexts-with_operand place v (Trap code) = refl
contexts-with_operand place v (CondTrap opcode arg code) = refl
contexts-with_operand place v (Call function args) = refl
contexts-with_operand place v (CallIndirect sig args) = refl
contexts-with_operand place v (TryCall function args table) = refl
contexts-with_operand place v (TryCallIndirect args table) = refl

pub contexts-with_edge_argument : (edge place v : ℕ) (shape : InstructionData) → contexts (with_edge_argument edge place v shape) ≡ contexts shape
contexts-with_edge_argument edge place v (UnaryImm imm) = refl
contexts-with_edge_argument edge place v (UnaryIeee opcode bits) = refl
contexts-with_edge_argument edge place v (UnaryConst opcode constant) = refl
contexts-with_edge_argument edge place v (Unary opcode arg) = refl
contexts-with_edge_argument edge place v (Binary opcode args) = refl
contexts-with_edge_argument edge place v (IntCompare cond args) = refl
contexts-with_edge_argument edge place v (Concat args) = refl
contexts-with_edge_argument edge place v (Split arg) = refl
contexts-with_edge_argument edge place v (Convert opcode arg) = refl
contexts-with_edge_argument edge place v (Ternary args) = refl
contexts-with_edge_argument edge place v (Load flags arg offset) = refl
contexts-with_edge_argument edge place v (Store flags args offset) = refl
contexts-with_edge_argument edge place v (StackLoad opcode slot offset) = refl
contexts-with_edge_argument edge place v (StackStore arg slot offset) = refl
contexts-with_edge_argument edge place v (Jump destination) = refl
contexts-with_edge_argument edge place v (Brif arg blocks) = refl
contexts-with_edge_argument edge place v (BranchTable arg table) = refl
contexts-with_edge_argument edge place v (MultiAry args) = refl
contexts-with_edge_argument edge place v (Trap code) = refl
contexts-with_edge_argument edge place v (CondTrap opcode arg code) = refl
contexts-with_edge_argument edge place v (Call function args) = refl
contexts-with_edge_argument edge place v (CallIndirect sig args) = refl
contexts-with_edge_argument edge place v (TryCall function args table) = refl
contexts-with_edge_argument edge place v (TryCallIndirect args table) = refl

pub contexts-with_edge : (edge : ℕ) (call : BlockCall) (shape : InstructionData) → contexts (with_edge edge call shape) ≡ contexts shape
contexts-with_edge edge call (UnaryImm imm) = refl
contexts-with_edge edge call (UnaryIeee opcode bits) = refl
contexts-with_edge edge call (UnaryConst opcode constant) = refl
contexts-with_edge edge call (Unary opcode arg) = refl
contexts-with_edge edge call (Binary opcode args) = refl
contexts-with_edge edge call (IntCompare cond args) = refl
contexts-with_edge edge call (Concat args) = refl
contexts-with_edge edge call (Split arg) = refl
contexts-with_edge edge call (Convert opcode arg) = refl
contexts-with_edge edge call (Ternary args) = refl
contexts-with_edge edge call (Load flags arg offset) = refl
contexts-with_edge edge call (Store flags args offset) = refl
contexts-with_edge edge call (StackLoad opcode slot offset) = refl
contexts-with_edge edge call (StackStore arg slot offset) = refl
contexts-with_edge edge call (Jump destination) = refl
contexts-with_edge edge call (Brif arg blocks) = refl
contexts-with_edge edge call (BranchTable arg table) = refl
contexts-with_edge edge call (MultiAry args) = refl
contexts-with_edge edge call (Trap code) = refl
contexts-with_edge edge call (CondTrap opcode arg code) = refl
contexts-with_edge edge call (Call function args) = refl
contexts-with_edge edge call (CallIndirect sig args) = refl
contexts-with_edge edge call (TryCall function args table) = refl
contexts-with_edge edge call (TryCallIndirect args table) = refl

-- a context in place of another one
same_items : (items : List ExceptionItem) (item v : ℕ) → ((x : ExceptionItem) → slice_get items item ≡ Some x → call_item_of x ≡ call_item_of (kept.Context v))
    → each call_item_of (set items item (kept.Context v)) ≡ each call_item_of items
same_items [] item v is = refl
same_items (x ∷ items) zero v is = ap (λ (c : CallItem). c ∷ each call_item_of items) (sym (is x refl))
same_items (x ∷ items) (suc item) v is = ap (λ (cs : List CallItem). call_item_of x ∷ cs) (same_items items item v is)

same_call : (t : TableLists) (table : ExceptionShape) (item v : ℕ) → ((x : ExceptionItem) → slice_get table.items item ≡ Some x → call_item_of x ≡ call_item_of (kept.Context v))
    → ◌≡◌ {A = CallShape} (record { signature = signature_at t table.sig; items = each call_item_of (set table.items item (kept.Context v)) }) (try_call_of t table)
same_call t table item v is = ap (λ (items : List CallItem). record { signature = signature_at t table.sig; items = items }) (same_items table.items item v is)

pub alike_context : (item v : ℕ) (shape : InstructionData)
    → ((x : ExceptionItem) → slice_get (items_of shape) item ≡ Some x → call_item_of x ≡ call_item_of (kept.Context v)) → IsAlike shape (with_context item v shape)
alike_context item v (UnaryImm imm) is = record { opcode = refl; operation = λ t. refl }
alike_context item v (UnaryIeee opcode bits) is = record { opcode = refl; operation = λ t. refl }
alike_context item v (UnaryConst opcode constant) is = record { opcode = refl; operation = λ t. refl }
alike_context item v (Unary opcode arg) is = record { opcode = refl; operation = λ t. refl }
alike_context item v (Binary opcode args) is = record { opcode = refl; operation = λ t. refl }
alike_context item v (IntCompare cond args) is = record { opcode = refl; operation = λ t. refl }
alike_context item v (Concat args) is = record { opcode = refl; operation = λ t. refl }
alike_context item v (Split arg) is = record { opcode = refl; operation = λ t. refl }
alike_context item v (Convert opcode arg) is = record { opcode = refl; operation = λ t. refl }
alike_context item v (Ternary args) is = record { opcode = refl; operation = λ t. refl }
alike_context item v (Load flags arg offset) is = record { opcode = refl; operation = λ t. refl }
alike_context item v (Store flags args offset) is = record { opcode = refl; operation = λ t. refl }
alike_context item v (StackLoad opcode slot offset) is = record { opcode = refl; operation = λ t. refl }
alike_context item v (StackStore arg slot offset) is = record { opcode = refl; operation = λ t. refl }
alike_context item v (Jump destination) is = record { opcode = refl; operation = λ t. refl }
alike_context item v (Brif arg blocks) is = record { opcode = refl; operation = λ t. refl }
alike_context item v (BranchTable arg table) is = record { opcode = refl; operation = λ t. refl }
alike_context item v (MultiAry args) is = record { opcode = refl; operation = λ t. refl }
alike_context item v (Trap code) is = record { opcode = refl; operation = λ t. refl }
alike_context item v (CondTrap opcode arg code) is = record { opcode = refl; operation = λ t. refl }
alike_context item v (Call function args) is = record { opcode = refl; operation = λ t. refl }
alike_context item v (CallIndirect sig args) is = record { opcode = refl; operation = λ t. refl }
alike_context item v (TryCall function args table) is = record { opcode = refl; operation = λ t. ap (operation.TryCall (function_at t function).name) (same_call t table item v is) }
alike_context item v (TryCallIndirect args table) is = record { opcode = refl; operation = λ t. ap operation.TryCallIndirect (same_call t table item v is) }

pub items-with_context : (item v : ℕ) (shape : InstructionData) → items_of (with_context item v shape) ≡ set (items_of shape) item (kept.Context v)
items-with_context item v (UnaryImm imm) = refl
items-with_context item v (UnaryIeee opcode bits) = refl
items-with_context item v (UnaryConst opcode constant) = refl
items-with_context item v (Unary opcode arg) = refl
items-with_context item v (Binary opcode args) = refl
items-with_context item v (IntCompare cond args) = refl
items-with_context item v (Concat args) = refl
items-with_context item v (Split arg) = refl
items-with_context item v (Convert opcode arg) = refl
items-with_context item v (Ternary args) = refl
items-with_context item v (Load flags arg offset) = refl
items-with_context item v (Store flags args offset) = refl
items-with_context item v (StackLoad opcode slot offset) = refl
items-with_context item v (StackStore arg slot offset) = refl
items-with_context item v (Jump destination) = refl
items-with_context item v (Brif arg blocks) = refl
items-with_context item v (BranchTable arg table) = refl
items-with_context item v (MultiAry args) = refl
items-with_context item v (Trap code) = refl
items-with_context item v (CondTrap opcode arg code) = refl
items-with_context item v (Call function args) = refl
items-with_context item v (CallIndirect sig args) = refl
items-with_context item v (TryCall function args table) = refl
items-with_context item v (TryCallIndirect args table) = refl

pub contexts-items : (shape : InstructionData) → contexts shape ≡ flat_map item_context (items_of shape)
contexts-items (UnaryImm imm) = refl
contexts-items (UnaryIeee opcode bits) = refl
contexts-items (UnaryConst opcode constant) = refl
contexts-items (Unary opcode arg) = refl
contexts-items (Binary opcode args) = refl
contexts-items (IntCompare cond args) = refl
contexts-items (Concat args) = refl
contexts-items (Split arg) = refl
contexts-items (Convert opcode arg) = refl
contexts-items (Ternary args) = refl
contexts-items (Load flags arg offset) = refl
contexts-items (Store flags args offset) = refl
contexts-items (StackLoad opcode slot offset) = refl
contexts-items (StackStore arg slot offset) = refl
contexts-items (Jump destination) = refl
contexts-items (Brif arg blocks) = refl
contexts-items (BranchTable arg table) = refl
contexts-items (MultiAry args) = refl
contexts-items (Trap code) = refl
contexts-items (CondTrap opcode arg code) = refl
contexts-items (Call function args) = refl
contexts-items (CallIndirect sig args) = refl
contexts-items (TryCall function args table) = refl
contexts-items (TryCallIndirect args table) = refl

-- tables that differ in slots and stack maps
pub operation_stays : (t u : TableLists) (shape : InstructionData) → operation_of (record t { stack_slots = u.stack_slots; stack_maps = u.stack_maps }) shape ≡ operation_of t shape
operation_stays t u (UnaryImm imm) = refl
operation_stays t u (UnaryIeee opcode bits) = refl
operation_stays t u (UnaryConst opcode constant) = refl
operation_stays t u (Unary opcode arg) = refl
operation_stays t u (Binary opcode args) = refl
operation_stays t u (IntCompare cond args) = refl
operation_stays t u (Concat args) = refl
operation_stays t u (Split arg) = refl
operation_stays t u (Convert opcode arg) = refl
operation_stays t u (Ternary args) = refl
operation_stays t u (Load flags arg offset) = refl
operation_stays t u (Store flags args offset) = refl
operation_stays t u (StackLoad opcode slot offset) = refl
operation_stays t u (StackStore arg slot offset) = refl
operation_stays t u (Jump destination) = refl
operation_stays t u (Brif arg blocks) = refl
operation_stays t u (BranchTable arg table) = refl
operation_stays t u (MultiAry args) = refl
operation_stays t u (Trap code) = refl
operation_stays t u (CondTrap opcode arg code) = refl
operation_stays t u (Call function args) = refl
operation_stays t u (CallIndirect sig args) = refl
operation_stays t u (TryCall function args table) = refl
operation_stays t u (TryCallIndirect args table) = refl

-- what an instruction with edges gives by its exception table it gives as a call
pub table_gives : (t : TableLists) (shape : InstructionData) (index : ℕ) → 0 < length (destinations shape)
    → table_type t (exception_table shape) index ≡ returned_type (call_shape (operation_of t shape)) index
table_gives t (UnaryImm imm) index some = refl
table_gives t (UnaryIeee opcode bits) index some = refl
table_gives t (UnaryConst opcode constant) index some = refl
table_gives t (Unary opcode arg) index some = refl
table_gives t (Binary opcode args) index some = refl
table_gives t (IntCompare cond args) index some = refl
table_gives t (Concat args) index some = refl
table_gives t (Split arg) index some = refl
table_gives t (Convert opcode arg) index some = refl
table_gives t (Ternary args) index some = refl
table_gives t (Load flags arg offset) index some = refl
table_gives t (Store flags args offset) index some = refl
table_gives t (StackLoad opcode slot offset) index some = refl
table_gives t (StackStore arg slot offset) index some = refl
table_gives t (Jump destination) index some = refl
table_gives t (Brif arg blocks) index some = refl
table_gives t (BranchTable arg table) index some = refl
table_gives t (MultiAry args) index some = refl
table_gives t (Trap code) index some = refl
table_gives t (CondTrap opcode arg code) index some = refl
table_gives t (Call function args) index some = absurd (omega (arith, some))
table_gives t (CallIndirect sig args) index some = absurd (omega (arith, some))
table_gives t (TryCall function args table) index some = refl
table_gives t (TryCallIndirect args table) index some = refl
