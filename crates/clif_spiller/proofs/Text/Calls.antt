-- Which instructions are calls, by their shapes and by what they do.
use Rattle.std.proofs.Common.{◌≡◌, true, false, refl}
use Rattle.std.specs.Prelude.{None, Some}
use Rattle.std.proofs.lemmas.Bool.{false≢true}
use Rattle.clif_tables.specs.Lists.{TableLists}
use Rattle.clif_instructions.specs.Instruction.{is_call}
use Rattle.clif_instructions.specs.declared.instructions.InstructionData.{InstructionData}
use Rattle.clif_instructions.specs.declared.instructions.InstructionData.TheVariants.{UnaryImm, UnaryIeee, UnaryConst, Unary, Binary, IntCompare, Concat, Split, Convert, Ternary, Load, Store, StackLoad, StackStore, Jump, Brif, BranchTable, MultiAry, Trap, CondTrap, Call, CallIndirect, TryCall, TryCallIndirect}
use Rattle.clif_meaning.specs.Event.{CallShape}
use Rattle.clif_meaning.specs.Typing.{call_shape}
use Rattle.clif_meaning.specs.View.{operation_of}

abbrev pub IsACall : TableLists → InstructionData → Type 0
IsACall tables shape = (call : CallShape) × (call_shape (operation_of tables shape) ≡ Some call)

pub is_a_call : (tables : TableLists) (shape : InstructionData) → is_call shape ≡ true → IsACall tables shape
is_a_call tables (UnaryImm imm) is = absurd (false≢true is)
is_a_call tables (UnaryIeee opcode bits) is = absurd (false≢true is)
is_a_call tables (UnaryConst opcode constant) is = absurd (false≢true is)
is_a_call tables (Unary opcode arg) is = absurd (false≢true is)
is_a_call tables (Binary opcode args) is = absurd (false≢true is)
is_a_call tables (IntCompare cond args) is = absurd (false≢true is)
is_a_call tables (Concat args) is = absurd (false≢true is)
is_a_call tables (Split arg) is = absurd (false≢true is)
is_a_call tables (Convert opcode arg) is = absurd (false≢true is)
is_a_call tables (Ternary args) is = absurd (false≢true is)
is_a_call tables (Load flags arg offset) is = absurd (false≢true is)
is_a_call tables (Store flags args offset) is = absurd (false≢true is)
is_a_call tables (StackLoad opcode slot offset) is = absurd (false≢true is)
is_a_call tables (StackStore arg slot offset) is = absurd (false≢true is)
is_a_call tables (Jump destination) is = absurd (false≢true is)
is_a_call tables (Brif arg blocks) is = absurd (false≢true is)
is_a_call tables (BranchTable arg table) is = absurd (false≢true is)
is_a_call tables (MultiAry args) is = absurd (false≢true is)
is_a_call tables (Trap code) is = absurd (false≢true is)
is_a_call tables (CondTrap opcode arg code) is = absurd (false≢true is)
is_a_call tables (Call function args) is = (_, refl)
is_a_call tables (CallIndirect sig args) is = (_, refl)
is_a_call tables (TryCall function args table) is = (_, refl)
is_a_call tables (TryCallIndirect args table) is = (_, refl)

pub calls_so : (tables : TableLists) (shape : InstructionData) (call : CallShape) → call_shape (operation_of tables shape) ≡ Some call → is_call shape ≡ true
calls_so tables (UnaryImm imm) call is = cc
calls_so tables (UnaryIeee opcode bits) call is = cc
calls_so tables (UnaryConst opcode constant) call is = cc
calls_so tables (Unary opcode arg) call is = cc
calls_so tables (Binary opcode args) call is = cc
calls_so tables (IntCompare cond args) call is = cc
calls_so tables (Concat args) call is = cc
calls_so tables (Split arg) call is = cc
calls_so tables (Convert opcode arg) call is = cc
calls_so tables (Ternary args) call is = cc
calls_so tables (Load flags arg offset) call is = cc
calls_so tables (Store flags args offset) call is = cc
calls_so tables (StackLoad opcode slot offset) call is = cc
calls_so tables (StackStore arg slot offset) call is = cc
calls_so tables (Jump destination) call is = cc
calls_so tables (Brif arg blocks) call is = cc
calls_so tables (BranchTable arg table) call is = cc
calls_so tables (MultiAry args) call is = cc
calls_so tables (Trap code) call is = cc
calls_so tables (CondTrap opcode arg code) call is = cc
calls_so tables (Call function args) call is = refl
calls_so tables (CallIndirect sig args) call is = refl
calls_so tables (TryCall function args table) call is = refl
calls_so tables (TryCallIndirect args table) call is = refl

pub no_call : (tables : TableLists) (shape : InstructionData) → is_call shape ≡ false → call_shape (operation_of tables shape) ≡ None
no_call tables (UnaryImm imm) is = refl
no_call tables (UnaryIeee opcode bits) is = refl
no_call tables (UnaryConst opcode constant) is = refl
no_call tables (Unary opcode arg) is = refl
no_call tables (Binary opcode args) is = refl
no_call tables (IntCompare condition args) is = refl
no_call tables (Concat args) is = refl
no_call tables (Split arg) is = refl
no_call tables (Convert opcode arg) is = refl
no_call tables (Ternary args) is = refl
no_call tables (Load flags arg offset) is = refl
no_call tables (Store flags args offset) is = refl
no_call tables (StackLoad opcode slot offset) is = refl
no_call tables (StackStore arg slot offset) is = refl
no_call tables (Jump destination) is = refl
no_call tables (Brif arg blocks) is = refl
no_call tables (BranchTable arg table) is = refl
no_call tables (MultiAry args) is = refl
no_call tables (Trap reason) is = refl
no_call tables (CondTrap opcode arg reason) is = refl
no_call tables (Call function args) is = cc
no_call tables (CallIndirect sig args) is = cc
no_call tables (TryCall function args table) is = cc
no_call tables (TryCallIndirect args table) is = cc
