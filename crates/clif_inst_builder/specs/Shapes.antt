-- Shapes of instructions as the methods of `InstBuilder` make them, and what a generic caller knows of them.
-- Source: own, after the crate's formats of instructions.
use Rattle.std.specs.Prelude.{◌≡◌, ◌⊎◌, ℕ, List, [], ◌∷◌, false, Result, Ok, Err, ℤ}
use Rattle.clif_types.specs.declared.error.BuildError.{BuildError}
use Rattle.clif_types.specs.declared.types.«Type».{«Type»}
use Rattle.clif_instructions.specs.declared.block_call.BlockArg.{BlockArg}
use Rattle.clif_instructions.specs.declared.block_call.BlockCall.{BlockCall}
use Rattle.clif_types.specs.declared.condcodes.IntCC.{IntCC}
use Rattle.clif_types.specs.declared.trapcode.TrapCode.{TrapCode}
use Rattle.clif_types.specs.MemFlags.{MemFlagsShape}
use Rattle.clif_opcodes.specs.declared.opcodes.BinaryOpcode.{BinaryOpcode}
use Rattle.clif_opcodes.specs.declared.opcodes.CondTrapOpcode.{CondTrapOpcode}
use Rattle.clif_opcodes.specs.declared.opcodes.FloatConstOpcode.{FloatConstOpcode}
use Rattle.clif_opcodes.specs.declared.opcodes.ConvertOpcode.{ConvertOpcode}
use Rattle.clif_opcodes.specs.declared.opcodes.PooledConstOpcode.{PooledConstOpcode}
use Rattle.clif_opcodes.specs.declared.opcodes.StackOpcode.{StackOpcode}
use Rattle.clif_opcodes.specs.declared.opcodes.UnaryOpcode.{UnaryOpcode}
use Rattle.clif_instructions.specs.ExceptionTables.{ExceptionShape}
use Rattle.clif_instructions.specs.declared.instructions.InstructionData.{InstructionData}
use Rattle.clif_instructions.specs.declared.instructions.InstructionData.TheVariants.{UnaryImm, UnaryIeee, UnaryConst, Unary, Binary, IntCompare, Concat, Split, Convert, Ternary, Load, Store, StackLoad, StackStore, Jump, Brif, BranchTable, MultiAry, Trap, CondTrap, Call, CallIndirect, TryCall, TryCallIndirect}
use Rattle.clif_instructions.specs.Instruction.{destinations, is_branch, is_call, is_terminator, result_count, result_type_of, result_types}

-- an edge to a block that passes these arguments
abbrev pub edge_to : ℕ → List BlockArg → BlockCall
edge_to block args = record { block = block; args = args }

abbrev pub unary_imm : ℤ → InstructionData
unary_imm imm = UnaryImm imm

abbrev pub unary : UnaryOpcode → ℕ → InstructionData
unary opcode x = Unary opcode x

abbrev pub binary : BinaryOpcode → ℕ → ℕ → InstructionData
binary opcode x y = Binary opcode (x ∷ y ∷ [])

abbrev pub convert : ConvertOpcode → ℕ → InstructionData
convert opcode x = Convert opcode x

abbrev pub ternary : ℕ → ℕ → ℕ → InstructionData
ternary c x y = Ternary (c ∷ x ∷ y ∷ [])

abbrev pub jump : ℕ → List BlockArg → InstructionData
jump block args = Jump (edge_to block args)

abbrev pub brif : ℕ → BlockCall → BlockCall → InstructionData
brif c taken other = Brif c (taken ∷ other ∷ [])

-- the same by the blocks and the arguments
abbrev pub brif_to : ℕ → ℕ → List BlockArg → ℕ → List BlockArg → InstructionData
brif_to c block_then then_args block_else else_args =
    brif c (edge_to block_then then_args) (edge_to block_else else_args)

abbrev pub multi_ary : List ℕ → InstructionData
multi_ary values = MultiAry values

abbrev pub unary_ieee : FloatConstOpcode → ℕ → InstructionData
unary_ieee opcode bits = UnaryIeee opcode bits

abbrev pub unary_const : PooledConstOpcode → ℕ → InstructionData
unary_const opcode constant = UnaryConst opcode constant

abbrev pub branch_table : ℕ → List BlockCall → InstructionData
branch_table x table = BranchTable x table

abbrev pub int_compare : IntCC → ℕ → ℕ → InstructionData
int_compare condition x y = IntCompare condition (x ∷ y ∷ [])

abbrev pub concat : ℕ → ℕ → InstructionData
concat low high = Concat (low ∷ high ∷ [])

abbrev pub split : ℕ → InstructionData
split x = Split x

abbrev pub load : MemFlagsShape → ℕ → ℤ → InstructionData
load flags address offset = Load flags address offset

abbrev pub store : MemFlagsShape → ℕ → ℕ → ℤ → InstructionData
store flags x address offset = Store flags (x ∷ address ∷ []) offset

abbrev pub stack : StackOpcode → ℕ → ℤ → InstructionData
stack opcode slot offset = StackLoad opcode slot offset

abbrev pub stack_store : ℕ → ℕ → ℤ → InstructionData
stack_store x slot offset = StackStore x slot offset

abbrev pub trap : TrapCode → InstructionData
trap code = Trap code

abbrev pub cond_trap : CondTrapOpcode → ℕ → TrapCode → InstructionData
cond_trap opcode c code = CondTrap opcode c code

abbrev pub call : ℕ → List ℕ → InstructionData
call function args = Call function args

abbrev pub call_indirect : ℕ → ℕ → List ℕ → InstructionData
call_indirect sig callee args = CallIndirect sig (callee ∷ args)

abbrev pub try_call : ℕ → List ℕ → ExceptionShape → InstructionData
try_call function args exception = TryCall function args exception

abbrev pub try_call_indirect : ℕ → List ℕ → ExceptionShape → InstructionData
try_call_indirect callee args exception = TryCallIndirect (callee ∷ args) exception

-- an instruction of this shape goes nowhere and ends no block
pub record IsStraight (shape : InstructionData) : Type 0 where
  pub no_branch : is_branch shape ≡ false
  pub goes_on : is_terminator shape ≡ false

-- an instruction of this shape has one result, calls nothing, goes nowhere and ends no block
pub record GivesValue (shape : InstructionData) : Type 0 where
  pub no_call : is_call shape ≡ false
  pub no_branch : is_branch shape ≡ false
  pub no_edges : destinations shape ≡ []
  pub one_result : (ty : «Type») → result_types shape ty ≡ result_type_of shape ty ∷ []
  pub goes_on : is_terminator shape ≡ false

-- an instruction of this shape has two results, calls nothing, goes nowhere and ends no block
pub record GivesPair (shape : InstructionData) : Type 0 where
  pub no_call : is_call shape ≡ false
  pub no_branch : is_branch shape ≡ false
  pub no_edges : destinations shape ≡ []
  pub two_results : result_count shape ≡ 2
  pub goes_on : is_terminator shape ≡ false

-- this holds of any builders and any value between which the value was built and answered
abbrev pub AfterValue : {B V : Type 0} → (Result ℕ BuildError → V) → (B → B → InstructionData → «Type» → V → Type 0) → (B → B → ℕ → Type 0) → Type 0
AfterValue {B} {V} answer_value builds_value P =
    (old new : B) (shape : InstructionData) (ty : «Type») (value : ℕ) → builds_value old new shape ty (answer_value (Ok value)) → P old new value

-- what is built at the type of a value is built at that type
abbrev pub LikeIsValue : {B V : Type 0} → (B → B → InstructionData → ℕ → V → Type 0) → (B → B → InstructionData → «Type» → V → Type 0) → (B → ℕ → «Type») → Type 0
LikeIsValue {B} {V} builds_like builds_value type_of =
    (old new : B) (shape : InstructionData) (x : ℕ) (answer : V)
    → builds_like old new shape x answer → builds_value old new shape (type_of old x) answer

-- A constant is pooled, and then the value of an instruction of its shape is built; or pooling fails, and the answer is made of its
-- error.
abbrev pub PoolsThenAnswers : {B V : Type 0} → (Result ℕ BuildError → V) → (B → B → List ℕ → Result ℕ BuildError → Type 0)
    → (B → B → InstructionData → «Type» → V → Type 0) → (old new : B) → (ℕ → InstructionData) → List ℕ → «Type» → V → Type 0
PoolsThenAnswers {B} {V} answer_value pools builds_value old new shape bytes ty answer =
    ((between : B) × (constant : ℕ) × pools old between bytes (Ok constant) × builds_value between new (shape constant) ty answer)
    ⊎ ((error : BuildError) × pools old new bytes (Err error) × (answer ≡ answer_value (Err error)))

-- this holds of any builders and any constant between which the constant was pooled
abbrev pub AfterPooling : {B : Type 0} → (B → B → List ℕ → Result ℕ BuildError → Type 0) → (B → B → ℕ → Type 0) → Type 0
AfterPooling {B} pools P = (old new : B) (bytes : List ℕ) (constant : ℕ) → pools old new bytes (Ok constant) → P old new constant

-- What a table holds is taken, and then the instruction that it serves is built, of its shape; or it isn't taken, and the answer is
-- made of the error.
abbrev pub TakesThenAnswers : {B T I : Type 0} → (Result ℕ BuildError → I) → (B → B → ℕ → Result T BuildError → Type 0)
    → (B → B → InstructionData → «Type» → I → Type 0) → (old new : B) → (T → InstructionData) → ℕ → «Type» → I → Type 0
TakesThenAnswers {B} {T} {I} answer_inst takes builds old new shape table ty answer =
    ((between : B) × (held : T) × takes old between table (Ok held) × builds between new (shape held) ty answer)
    ⊎ ((error : BuildError) × takes old new table (Err error) × (answer ≡ answer_inst (Err error)))

-- The same, where the answer is a result.
abbrev pub TakesThenBuilds : {B T : Type 0} → (B → B → ℕ → Result T BuildError → Type 0)
    → (B → B → InstructionData → «Type» → Result ℕ BuildError → Type 0)
    → (old new : B) → (T → InstructionData) → ℕ → «Type» → Result ℕ BuildError → Type 0
TakesThenBuilds = TakesThenAnswers (λ made. made)

-- What a table holds is taken and the instruction built, unless memory is refused first for what the instruction is to hold beside
-- it: the builder fails then as by an instruction of any shape, and the table isn't taken.
abbrev pub GrowsThenAnswers : {B T I : Type 0} → (Result ℕ BuildError → I) → (B → B → ℕ → Result T BuildError → Type 0)
    → (B → B → InstructionData → «Type» → I → Type 0) → (old new : B) → (T → InstructionData) → ℕ → «Type» → I → Type 0
GrowsThenAnswers {B} {T} {I} answer_inst takes builds old new shape table ty answer =
    TakesThenAnswers answer_inst takes builds old new shape table ty answer
    ⊎ ((error : BuildError) × ((any : InstructionData) → builds old new any ty (answer_inst (Err error))) × (answer ≡ answer_inst (Err error)))

-- this holds of any builders, table and what it held, between which that was taken
abbrev pub AfterTaking : {B T : Type 0} → (B → B → ℕ → Result T BuildError → Type 0) → (B → B → ℕ → T → Type 0) → Type 0
AfterTaking {B} {T} takes P = (old new : B) (table : ℕ) (held : T) → takes old new table (Ok held) → P old new table held
