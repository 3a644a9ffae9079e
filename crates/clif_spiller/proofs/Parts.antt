-- An instruction of which an operand, an edge or a context is replaced: what its parts are.
use Rattle.std.proofs.Common.{◌≡◌, ◌<◌, ℕ, zero, suc, [], ◌∷◌, length, set, refl, arith}
use Rattle.clif_instructions.specs.Edges.{edge_at, with_passed}
use Rattle.clif_instructions.specs.Instruction.{destinations, operands, with_context, with_edge, with_edge_argument, with_operand}
use Rattle.clif_instructions.specs.declared.block_call.BlockCall.{BlockCall}
use Rattle.clif_instructions.specs.declared.instructions.InstructionData.{InstructionData}
use Rattle.clif_instructions.specs.declared.instructions.InstructionData.TheVariants.{UnaryImm, UnaryIeee, UnaryConst, Unary, Binary, IntCompare, Concat, Split, Convert, Ternary, Load, Store, StackLoad, StackStore, Jump, Brif, BranchTable, MultiAry, Trap, CondTrap, Call, CallIndirect, TryCall, TryCallIndirect}

-- the only thing of a list is replaced
only_one : {X : Type 0} (x y : X) (k : ℕ) → k < length (x ∷ []) → y ∷ [] ≡ set (x ∷ []) k y
only_one x y zero inside = refl
only_one x y (suc k) inside = absurd (omega (arith, inside))

only_edge : (place v : ℕ) (call : BlockCall) (k : ℕ) → k < length (call ∷ []) → with_passed place v call ∷ [] ≡ set (call ∷ []) k (with_passed place v (edge_at (call ∷ []) k))
only_edge place v call zero inside = refl
only_edge place v call (suc k) inside = absurd (omega (arith, inside))

-- OPERANDS --------------------------------------------------------------------------------------------------------------

pub operands-with_operand : (place v : ℕ) (shape : InstructionData) → place < length (operands shape) → operands (with_operand place v shape) ≡ set (operands shape) place v
operands-with_operand place v (UnaryImm imm) inside = absurd (omega (arith, inside))
operands-with_operand place v (UnaryIeee opcode bits) inside = absurd (omega (arith, inside))
operands-with_operand place v (UnaryConst opcode constant) inside = absurd (omega (arith, inside))
operands-with_operand place v (Unary opcode arg) inside = only_one arg v place inside
operands-with_operand place v (Binary opcode args) inside = refl
operands-with_operand place v (IntCompare cond args) inside = refl
operands-with_operand place v (Concat args) inside = refl
operands-with_operand place v (Split arg) inside = only_one arg v place inside
operands-with_operand place v (Convert opcode arg) inside = only_one arg v place inside
operands-with_operand place v (Ternary args) inside = refl
operands-with_operand place v (Load flags arg offset) inside = only_one arg v place inside
operands-with_operand place v (Store flags args offset) inside = refl
operands-with_operand place v (StackLoad opcode slot offset) inside = absurd (omega (arith, inside))
operands-with_operand place v (StackStore arg slot offset) inside = only_one arg v place inside
operands-with_operand place v (Jump destination) inside = absurd (omega (arith, inside))
operands-with_operand place v (Brif arg blocks) inside = only_one arg v place inside
operands-with_operand place v (BranchTable arg table) inside = only_one arg v place inside
operands-with_operand place v (MultiAry args) inside = refl
operands-with_operand place v (Trap code) inside = absurd (omega (arith, inside))
operands-with_operand place v (CondTrap opcode arg code) inside = only_one arg v place inside
operands-with_operand place v (Call function args) inside = refl
operands-with_operand place v (CallIndirect sig args) inside = refl
operands-with_operand place v (TryCall function args table) inside = refl
operands-with_operand place v (TryCallIndirect args table) inside = refl

pub operands-with_edge_argument : (edge place v : ℕ) (shape : InstructionData) → operands (with_edge_argument edge place v shape) ≡ operands shape
operands-with_edge_argument edge place v (UnaryImm imm) = refl
operands-with_edge_argument edge place v (UnaryIeee opcode bits) = refl
operands-with_edge_argument edge place v (UnaryConst opcode constant) = refl
operands-with_edge_argument edge place v (Unary opcode arg) = refl
operands-with_edge_argument edge place v (Binary opcode args) = refl
operands-with_edge_argument edge place v (IntCompare cond args) = refl
operands-with_edge_argument edge place v (Concat args) = refl
operands-with_edge_argument edge place v (Split arg) = refl
operands-with_edge_argument edge place v (Convert opcode arg) = refl
operands-with_edge_argument edge place v (Ternary args) = refl
operands-with_edge_argument edge place v (Load flags arg offset) = refl
operands-with_edge_argument edge place v (Store flags args offset) = refl
operands-with_edge_argument edge place v (StackLoad opcode slot offset) = refl
operands-with_edge_argument edge place v (StackStore arg slot offset) = refl
operands-with_edge_argument edge place v (Jump destination) = refl
operands-with_edge_argument edge place v (Brif arg blocks) = refl
operands-with_edge_argument edge place v (BranchTable arg table) = refl
operands-with_edge_argument edge place v (MultiAry args) = refl
operands-with_edge_argument edge place v (Trap code) = refl
operands-with_edge_argument edge place v (CondTrap opcode arg code) = refl
operands-with_edge_argument edge place v (Call function args) = refl
operands-with_edge_argument edge place v (CallIndirect sig args) = refl
operands-with_edge_argument edge place v (TryCall function args table) = refl
operands-with_edge_argument edge place v (TryCallIndirect args table) = refl

pub operands-with_edge : (edge : ℕ) (call : BlockCall) (shape : InstructionData) → operands (with_edge edge call shape) ≡ operands shape
operands-with_edge edge call (UnaryImm imm) = refl
operands-with_edge edge call (UnaryIeee opcode bits) = refl
operands-with_edge edge call (UnaryConst opcode constant) = refl
operands-with_edge edge call (Unary opcode arg) = refl
operands-with_edge edge call (Binary opcode args) = refl
operands-with_edge edge call (IntCompare cond args) = refl
operands-with_edge edge call (Concat args) = refl
operands-with_edge edge call (Split arg) = refl
operands-with_edge edge call (Convert opcode arg) = refl
operands-with_edge edge call (Ternary args) = refl
operands-with_edge edge call (Load flags arg offset) = refl
operands-with_edge edge call (Store flags args offset) = refl
operands-with_edge edge call (StackLoad opcode slot offset) = refl
operands-with_edge edge call (StackStore arg slot offset) = refl
operands-with_edge edge call (Jump destination) = refl
operands-with_edge edge call (Brif arg blocks) = refl
operands-with_edge edge call (BranchTable arg table) = refl
operands-with_edge edge call (MultiAry args) = refl
operands-with_edge edge call (Trap code) = refl
operands-with_edge edge call (CondTrap opcode arg code) = refl
operands-with_edge edge call (Call function args) = refl
operands-with_edge edge call (CallIndirect sig args) = refl
operands-with_edge edge call (TryCall function args table) = refl
operands-with_edge edge call (TryCallIndirect args table) = refl

pub operands-with_context : (item v : ℕ) (shape : InstructionData) → operands (with_context item v shape) ≡ operands shape
operands-with_context item v (UnaryImm imm) = refl
operands-with_context item v (UnaryIeee opcode bits) = refl
operands-with_context item v (UnaryConst opcode constant) = refl
operands-with_context item v (Unary opcode arg) = refl
operands-with_context item v (Binary opcode args) = refl
operands-with_context item v (IntCompare cond args) = refl
operands-with_context item v (Concat args) = refl
operands-with_context item v (Split arg) = refl
operands-with_context item v (Convert opcode arg) = refl
operands-with_context item v (Ternary args) = refl
operands-with_context item v (Load flags arg offset) = refl
operands-with_context item v (Store flags args offset) = refl
operands-with_context item v (StackLoad opcode slot offset) = refl
operands-with_context item v (StackStore arg slot offset) = refl
operands-with_context item v (Jump destination) = refl
operands-with_context item v (Brif arg blocks) = refl
operands-with_context item v (BranchTable arg table) = refl
operands-with_context item v (MultiAry args) = refl
operands-with_context item v (Trap code) = refl
operands-with_context item v (CondTrap opcode arg code) = refl
operands-with_context item v (Call function args) = refl
operands-with_context item v (CallIndirect sig args) = refl
operands-with_context item v (TryCall function args table) = refl
operands-with_context item v (TryCallIndirect args table) = refl

-- EDGES -----------------------------------------------------------------------------------------------------------------

pub destinations-with_edge_argument : (edge place v : ℕ) (shape : InstructionData) → edge < length (destinations shape)
    → destinations (with_edge_argument edge place v shape) ≡ set (destinations shape) edge (with_passed place v (edge_at (destinations shape) edge))
destinations-with_edge_argument edge place v (UnaryImm imm) inside = absurd (omega (arith, inside))
destinations-with_edge_argument edge place v (UnaryIeee opcode bits) inside = absurd (omega (arith, inside))
destinations-with_edge_argument edge place v (UnaryConst opcode constant) inside = absurd (omega (arith, inside))
destinations-with_edge_argument edge place v (Unary opcode arg) inside = absurd (omega (arith, inside))
destinations-with_edge_argument edge place v (Binary opcode args) inside = absurd (omega (arith, inside))
destinations-with_edge_argument edge place v (IntCompare cond args) inside = absurd (omega (arith, inside))
destinations-with_edge_argument edge place v (Concat args) inside = absurd (omega (arith, inside))
destinations-with_edge_argument edge place v (Split arg) inside = absurd (omega (arith, inside))
destinations-with_edge_argument edge place v (Convert opcode arg) inside = absurd (omega (arith, inside))
destinations-with_edge_argument edge place v (Ternary args) inside = absurd (omega (arith, inside))
destinations-with_edge_argument edge place v (Load flags arg offset) inside = absurd (omega (arith, inside))
destinations-with_edge_argument edge place v (Store flags args offset) inside = absurd (omega (arith, inside))
destinations-with_edge_argument edge place v (StackLoad opcode slot offset) inside = absurd (omega (arith, inside))
destinations-with_edge_argument edge place v (StackStore arg slot offset) inside = absurd (omega (arith, inside))
destinations-with_edge_argument edge place v (Jump destination) inside = only_edge place v destination edge inside
destinations-with_edge_argument edge place v (Brif arg blocks) inside = refl
destinations-with_edge_argument edge place v (BranchTable arg table) inside = refl
destinations-with_edge_argument edge place v (MultiAry args) inside = absurd (omega (arith, inside))
destinations-with_edge_argument edge place v (Trap code) inside = absurd (omega (arith, inside))
destinations-with_edge_argument edge place v (CondTrap opcode arg code) inside = absurd (omega (arith, inside))
destinations-with_edge_argument edge place v (Call function args) inside = absurd (omega (arith, inside))
destinations-with_edge_argument edge place v (CallIndirect sig args) inside = absurd (omega (arith, inside))
destinations-with_edge_argument edge place v (TryCall function args table) inside = refl
destinations-with_edge_argument edge place v (TryCallIndirect args table) inside = refl

pub destinations-with_edge : (edge : ℕ) (call : BlockCall) (shape : InstructionData) → edge < length (destinations shape)
    → destinations (with_edge edge call shape) ≡ set (destinations shape) edge call
destinations-with_edge edge call (UnaryImm imm) inside = absurd (omega (arith, inside))
destinations-with_edge edge call (UnaryIeee opcode bits) inside = absurd (omega (arith, inside))
destinations-with_edge edge call (UnaryConst opcode constant) inside = absurd (omega (arith, inside))
destinations-with_edge edge call (Unary opcode arg) inside = absurd (omega (arith, inside))
destinations-with_edge edge call (Binary opcode args) inside = absurd (omega (arith, inside))
destinations-with_edge edge call (IntCompare cond args) inside = absurd (omega (arith, inside))
destinations-with_edge edge call (Concat args) inside = absurd (omega (arith, inside))
destinations-with_edge edge call (Split arg) inside = absurd (omega (arith, inside))
destinations-with_edge edge call (Convert opcode arg) inside = absurd (omega (arith, inside))
destinations-with_edge edge call (Ternary args) inside = absurd (omega (arith, inside))
destinations-with_edge edge call (Load flags arg offset) inside = absurd (omega (arith, inside))
destinations-with_edge edge call (Store flags args offset) inside = absurd (omega (arith, inside))
destinations-with_edge edge call (StackLoad opcode slot offset) inside = absurd (omega (arith, inside))
destinations-with_edge edge call (StackStore arg slot offset) inside = absurd (omega (arith, inside))
destinations-with_edge edge call (Jump destination) inside = only_one destination call edge inside
destinations-with_edge edge call (Brif arg blocks) inside = refl
destinations-with_edge edge call (BranchTable arg table) inside = refl
destinations-with_edge edge call (MultiAry args) inside = absurd (omega (arith, inside))
destinations-with_edge edge call (Trap code) inside = absurd (omega (arith, inside))
destinations-with_edge edge call (CondTrap opcode arg code) inside = absurd (omega (arith, inside))
destinations-with_edge edge call (Call function args) inside = absurd (omega (arith, inside))
destinations-with_edge edge call (CallIndirect sig args) inside = absurd (omega (arith, inside))
destinations-with_edge edge call (TryCall function args table) inside = refl
destinations-with_edge edge call (TryCallIndirect args table) inside = refl

pub destinations-with_context : (item v : ℕ) (shape : InstructionData) → destinations (with_context item v shape) ≡ destinations shape
destinations-with_context item v (UnaryImm imm) = refl
destinations-with_context item v (UnaryIeee opcode bits) = refl
destinations-with_context item v (UnaryConst opcode constant) = refl
destinations-with_context item v (Unary opcode arg) = refl
destinations-with_context item v (Binary opcode args) = refl
destinations-with_context item v (IntCompare cond args) = refl
destinations-with_context item v (Concat args) = refl
destinations-with_context item v (Split arg) = refl
destinations-with_context item v (Convert opcode arg) = refl
destinations-with_context item v (Ternary args) = refl
destinations-with_context item v (Load flags arg offset) = refl
destinations-with_context item v (Store flags args offset) = refl
destinations-with_context item v (StackLoad opcode slot offset) = refl
destinations-with_context item v (StackStore arg slot offset) = refl
destinations-with_context item v (Jump destination) = refl
destinations-with_context item v (Brif arg blocks) = refl
destinations-with_context item v (BranchTable arg table) = refl
destinations-with_context item v (MultiAry args) = refl
destinations-with_context item v (Trap code) = refl
destinations-with_context item v (CondTrap opcode arg code) = refl
destinations-with_context item v (Call function args) = refl
destinations-with_context item v (CallIndirect sig args) = refl
destinations-with_context item v (TryCall function args table) = refl
destinations-with_context item v (TryCallIndirect args table) = refl
