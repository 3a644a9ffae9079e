-- What a change of an instruction's operands, edges or contexts leaves of it.
use Rattle.std.proofs.Common.{◌≡◌, ◌<◌, ℕ, zero, suc, List, [], ◌∷◌, Option, None, Some, length, get_or, set, slice_get, flat_map, Contains, refl, sym, ap, subst, arith}
use Rattle.std.proofs.lemmas.List.Elements.{Contains-append_left, Contains-append_right}
use Rattle.clif_instructions.specs.ExceptionTables.{ExceptionShape, item_context}
use Rattle.clif_instructions.specs.declared.exception_table.ExceptionItem.{ExceptionItem}
use Rattle.clif_instructions.specs.declared.exception_table.ExceptionItem.TheVariants as kept
use Rattle.clif_instructions.specs.Edges.{edge_at, no_edge, with_passed}
use Rattle.clif_instructions.specs.Instruction.{destinations, exception_table, items_of, operands, with_context, with_edge, with_edge_argument, with_operand}
use Rattle.clif_instructions.specs.declared.block_call.BlockCall.{BlockCall}
use Rattle.clif_instructions.specs.declared.block_call.BlockArg.TheVariants.{Value}
use Rattle.clif_instructions.specs.declared.instructions.InstructionData.{InstructionData}
use Rattle.clif_instructions.specs.declared.instructions.InstructionData.TheVariants.{UnaryImm, UnaryIeee, UnaryConst, Unary, Binary, IntCompare, Concat, Split, Convert, Ternary, Load, Store, StackLoad, StackStore, Jump, Brif, BranchTable, MultiAry, Trap, CondTrap, Call, CallIndirect, TryCall, TryCallIndirect}
use Rattle.clif_spiller.proofs.Keeping.{at_set_or_not, length_set}

no_table : {table : ExceptionShape} → ◌≡◌ {A = Option ExceptionShape} None (Some table) → ⊥
no_table is = cc

abbrev items_in : Option ExceptionShape → List ExceptionItem
items_in None = []
items_in (Some table) = table.items

pub destinations-with_operand : (place v : ℕ) (shape : InstructionData) → destinations (with_operand place v shape) ≡ destinations shape
destinations-with_operand place v (UnaryImm imm) = refl
destinations-with_operand place v (UnaryIeee opcode bits) = refl
destinations-with_operand place v (UnaryConst opcode constant) = refl
destinations-with_operand place v (Unary opcode arg) = refl
destinations-with_operand place v (Binary opcode args) = refl
destinations-with_operand place v (IntCompare cond args) = refl
destinations-with_operand place v (Concat args) = refl
destinations-with_operand place v (Split arg) = refl
destinations-with_operand place v (Convert opcode arg) = refl
destinations-with_operand place v (Ternary args) = refl
destinations-with_operand place v (Load flags arg offset) = refl
destinations-with_operand place v (Store flags args offset) = refl
destinations-with_operand place v (StackLoad opcode slot offset) = refl
destinations-with_operand place v (StackStore arg slot offset) = refl
destinations-with_operand place v (Jump destination) = refl
destinations-with_operand place v (Brif arg blocks) = refl
destinations-with_operand place v (BranchTable arg table) = refl
destinations-with_operand place v (MultiAry args) = refl
destinations-with_operand place v (Trap code) = refl
destinations-with_operand place v (CondTrap opcode arg code) = refl
destinations-with_operand place v (Call function args) = refl
destinations-with_operand place v (CallIndirect sig args) = refl
destinations-with_operand place v (TryCall function args table) = refl
destinations-with_operand place v (TryCallIndirect args table) = refl

pub length-operands-with_operand : (place v : ℕ) (shape : InstructionData) → length (operands (with_operand place v shape)) ≡ length (operands shape)
length-operands-with_operand place v (UnaryImm imm) = refl
length-operands-with_operand place v (UnaryIeee opcode bits) = refl
length-operands-with_operand place v (UnaryConst opcode constant) = refl
length-operands-with_operand place v (Unary opcode arg) = refl
length-operands-with_operand place v (Binary opcode args) = length_set args place v
length-operands-with_operand place v (IntCompare cond args) = length_set args place v
length-operands-with_operand place v (Concat args) = length_set args place v
length-operands-with_operand place v (Split arg) = refl
length-operands-with_operand place v (Convert opcode arg) = refl
length-operands-with_operand place v (Ternary args) = length_set args place v
length-operands-with_operand place v (Load flags arg offset) = refl
length-operands-with_operand place v (Store flags args offset) = length_set args place v
length-operands-with_operand place v (StackLoad opcode slot offset) = refl
length-operands-with_operand place v (StackStore arg slot offset) = refl
length-operands-with_operand place v (Jump destination) = refl
length-operands-with_operand place v (Brif arg blocks) = refl
length-operands-with_operand place v (BranchTable arg table) = refl
length-operands-with_operand place v (MultiAry args) = length_set args place v
length-operands-with_operand place v (Trap code) = refl
length-operands-with_operand place v (CondTrap opcode arg code) = refl
length-operands-with_operand place v (Call function args) = length_set args place v
length-operands-with_operand place v (CallIndirect sig args) = length_set args place v
length-operands-with_operand place v (TryCall function args table) = length_set args place v
length-operands-with_operand place v (TryCallIndirect args table) = length_set args place v

-- an edge that passes another value
one_set : (place v edge : ℕ) (call : BlockCall) → length (edge_at (with_passed place v call ∷ []) edge).args ≡ length (edge_at (call ∷ []) edge).args
one_set place v zero call = length_set call.args place (Value v)
one_set place v (suc edge) call = refl

each_set : (place v edge : ℕ) (edges : List BlockCall)
    → length (edge_at (set edges edge (with_passed place v (edge_at edges edge))) edge).args ≡ length (edge_at edges edge).args
each_set place v edge edges =
    at_set_or_not (λ (call : BlockCall). length call.args ≡ length (edge_at edges edge).args) edges edge (with_passed place v (edge_at edges edge)) edge no_edge
    (λ _. length_set (edge_at edges edge).args place (Value v)) refl

pub length-destinations-with_edge_argument : (edge place v : ℕ) (shape : InstructionData)
    → length (destinations (with_edge_argument edge place v shape)) ≡ length (destinations shape)
length-destinations-with_edge_argument edge place v (UnaryImm imm) = refl
length-destinations-with_edge_argument edge place v (UnaryIeee opcode bits) = refl
length-destinations-with_edge_argument edge place v (UnaryConst opcode constant) = refl
length-destinations-with_edge_argument edge place v (Unary opcode arg) = refl
length-destinations-with_edge_argument edge place v (Binary opcode args) = refl
length-destinations-with_edge_argument edge place v (IntCompare cond args) = refl
length-destinations-with_edge_argument edge place v (Concat args) = refl
length-destinations-with_edge_argument edge place v (Split arg) = refl
length-destinations-with_edge_argument edge place v (Convert opcode arg) = refl
length-destinations-with_edge_argument edge place v (Ternary args) = refl
length-destinations-with_edge_argument edge place v (Load flags arg offset) = refl
length-destinations-with_edge_argument edge place v (Store flags args offset) = refl
length-destinations-with_edge_argument edge place v (StackLoad opcode slot offset) = refl
length-destinations-with_edge_argument edge place v (StackStore arg slot offset) = refl
length-destinations-with_edge_argument edge place v (Jump destination) = refl
length-destinations-with_edge_argument edge place v (Brif arg blocks) = length_set blocks edge (with_passed place v (edge_at blocks edge))
length-destinations-with_edge_argument edge place v (BranchTable arg table) = length_set table edge (with_passed place v (edge_at table edge))
length-destinations-with_edge_argument edge place v (MultiAry args) = refl
length-destinations-with_edge_argument edge place v (Trap code) = refl
length-destinations-with_edge_argument edge place v (CondTrap opcode arg code) = refl
length-destinations-with_edge_argument edge place v (Call function args) = refl
length-destinations-with_edge_argument edge place v (CallIndirect sig args) = refl
length-destinations-with_edge_argument edge place v (TryCall function args table) = length_set table.edges edge (with_passed place v (edge_at table.edges edge))
length-destinations-with_edge_argument edge place v (TryCallIndirect args table) = length_set table.edges edge (with_passed place v (edge_at table.edges edge))

pub length-args-with_edge_argument : (edge place v : ℕ) (shape : InstructionData)
    → length (edge_at (destinations (with_edge_argument edge place v shape)) edge).args ≡ length (edge_at (destinations shape) edge).args
length-args-with_edge_argument edge place v (UnaryImm imm) = refl
length-args-with_edge_argument edge place v (UnaryIeee opcode bits) = refl
length-args-with_edge_argument edge place v (UnaryConst opcode constant) = refl
length-args-with_edge_argument edge place v (Unary opcode arg) = refl
length-args-with_edge_argument edge place v (Binary opcode args) = refl
length-args-with_edge_argument edge place v (IntCompare cond args) = refl
length-args-with_edge_argument edge place v (Concat args) = refl
length-args-with_edge_argument edge place v (Split arg) = refl
length-args-with_edge_argument edge place v (Convert opcode arg) = refl
length-args-with_edge_argument edge place v (Ternary args) = refl
length-args-with_edge_argument edge place v (Load flags arg offset) = refl
length-args-with_edge_argument edge place v (Store flags args offset) = refl
length-args-with_edge_argument edge place v (StackLoad opcode slot offset) = refl
length-args-with_edge_argument edge place v (StackStore arg slot offset) = refl
length-args-with_edge_argument edge place v (Jump destination) = one_set place v edge destination
length-args-with_edge_argument edge place v (Brif arg blocks) = each_set place v edge blocks
length-args-with_edge_argument edge place v (BranchTable arg table) = each_set place v edge table
length-args-with_edge_argument edge place v (MultiAry args) = refl
length-args-with_edge_argument edge place v (Trap code) = refl
length-args-with_edge_argument edge place v (CondTrap opcode arg code) = refl
length-args-with_edge_argument edge place v (Call function args) = refl
length-args-with_edge_argument edge place v (CallIndirect sig args) = refl
length-args-with_edge_argument edge place v (TryCall function args table) = each_set place v edge table.edges
length-args-with_edge_argument edge place v (TryCallIndirect args table) = each_set place v edge table.edges

pub length-destinations-with_edge : (edge : ℕ) (call : BlockCall) (shape : InstructionData)
    → length (destinations (with_edge edge call shape)) ≡ length (destinations shape)
length-destinations-with_edge edge call (UnaryImm imm) = refl
length-destinations-with_edge edge call (UnaryIeee opcode bits) = refl
length-destinations-with_edge edge call (UnaryConst opcode constant) = refl
length-destinations-with_edge edge call (Unary opcode arg) = refl
length-destinations-with_edge edge call (Binary opcode args) = refl
length-destinations-with_edge edge call (IntCompare cond args) = refl
length-destinations-with_edge edge call (Concat args) = refl
length-destinations-with_edge edge call (Split arg) = refl
length-destinations-with_edge edge call (Convert opcode arg) = refl
length-destinations-with_edge edge call (Ternary args) = refl
length-destinations-with_edge edge call (Load flags arg offset) = refl
length-destinations-with_edge edge call (Store flags args offset) = refl
length-destinations-with_edge edge call (StackLoad opcode slot offset) = refl
length-destinations-with_edge edge call (StackStore arg slot offset) = refl
length-destinations-with_edge edge call (Jump destination) = refl
length-destinations-with_edge edge call (Brif arg blocks) = length_set blocks edge call
length-destinations-with_edge edge call (BranchTable arg table) = length_set table edge call
length-destinations-with_edge edge call (MultiAry args) = refl
length-destinations-with_edge edge call (Trap code) = refl
length-destinations-with_edge edge call (CondTrap opcode arg code) = refl
length-destinations-with_edge edge call (Call function args) = refl
length-destinations-with_edge edge call (CallIndirect sig args) = refl
length-destinations-with_edge edge call (TryCall function args table) = length_set table.edges edge call
length-destinations-with_edge edge call (TryCallIndirect args table) = length_set table.edges edge call

pub length-items-with_context : (item v : ℕ) (shape : InstructionData) → length (items_of (with_context item v shape)) ≡ length (items_of shape)
length-items-with_context item v (UnaryImm imm) = refl
length-items-with_context item v (UnaryIeee opcode bits) = refl
length-items-with_context item v (UnaryConst opcode constant) = refl
length-items-with_context item v (Unary opcode arg) = refl
length-items-with_context item v (Binary opcode args) = refl
length-items-with_context item v (IntCompare cond args) = refl
length-items-with_context item v (Concat args) = refl
length-items-with_context item v (Split arg) = refl
length-items-with_context item v (Convert opcode arg) = refl
length-items-with_context item v (Ternary args) = refl
length-items-with_context item v (Load flags arg offset) = refl
length-items-with_context item v (Store flags args offset) = refl
length-items-with_context item v (StackLoad opcode slot offset) = refl
length-items-with_context item v (StackStore arg slot offset) = refl
length-items-with_context item v (Jump destination) = refl
length-items-with_context item v (Brif arg blocks) = refl
length-items-with_context item v (BranchTable arg table) = refl
length-items-with_context item v (MultiAry args) = refl
length-items-with_context item v (Trap code) = refl
length-items-with_context item v (CondTrap opcode arg code) = refl
length-items-with_context item v (Call function args) = refl
length-items-with_context item v (CallIndirect sig args) = refl
length-items-with_context item v (TryCall function args table) = length_set table.items item _
length-items-with_context item v (TryCallIndirect args table) = length_set table.items item _

-- the items of an exception table, and the contexts among them
pub items_are : (shape : InstructionData) (table : ExceptionShape) → exception_table shape ≡ Some table → items_of shape ≡ table.items
items_are (UnaryImm imm) table is = absurd (no_table is)
items_are (UnaryIeee opcode bits) table is = absurd (no_table is)
items_are (UnaryConst opcode constant) table is = absurd (no_table is)
items_are (Unary opcode arg) table is = absurd (no_table is)
items_are (Binary opcode args) table is = absurd (no_table is)
items_are (IntCompare cond args) table is = absurd (no_table is)
items_are (Concat args) table is = absurd (no_table is)
items_are (Split arg) table is = absurd (no_table is)
items_are (Convert opcode arg) table is = absurd (no_table is)
items_are (Ternary args) table is = absurd (no_table is)
items_are (Load flags arg offset) table is = absurd (no_table is)
items_are (Store flags args offset) table is = absurd (no_table is)
items_are (StackLoad opcode slot offset) table is = absurd (no_table is)
items_are (StackStore arg slot offset) table is = absurd (no_table is)
items_are (Jump destination) table is = absurd (no_table is)
items_are (Brif arg blocks) table is = absurd (no_table is)
items_are (BranchTable arg own) table is = absurd (no_table is)
items_are (MultiAry args) table is = absurd (no_table is)
items_are (Trap code) table is = absurd (no_table is)
items_are (CondTrap opcode arg code) table is = absurd (no_table is)
items_are (Call function args) table is = absurd (no_table is)
items_are (CallIndirect sig args) table is = absurd (no_table is)
items_are (TryCall function args own) table is = ap (λ (t : Option ExceptionShape). items_in t) is
items_are (TryCallIndirect args own) table is = ap (λ (t : Option ExceptionShape). items_in t) is

pub contains_context : (items : List ExceptionItem) (i v : ℕ) → slice_get items i ≡ Some (kept.Context v) → Contains (flat_map item_context items) v
contains_context [] i v is = cc
contains_context (item ∷ items) zero v is =
    let same : item ≡ kept.Context v = cc in
    Contains-append_left (item_context item) (flat_map item_context items) v (subst (λ (x : ExceptionItem). Contains (item_context x) v) (sym same) (0, omega arith, refl))
contains_context (item ∷ items) (suc i) v is = Contains-append_right (item_context item) (flat_map item_context items) v (contains_context items i v is)

-- inside a list what stands for nothing doesn't matter
pub get_or_inside : {A : Type 0} (xs : List A) (i : ℕ) (d e : A) → i < length xs → get_or xs i d ≡ get_or xs i e
get_or_inside [] i d e inside = absurd (omega (arith, inside))
get_or_inside (x ∷ xs) zero d e inside = refl
get_or_inside (x ∷ xs) (suc i) d e inside = get_or_inside xs i d e (omega (arith, inside))
