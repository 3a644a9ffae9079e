-- What the functions do that make a call of a script with a constant as an operand, a switch, and a memory helper: such a call is an
-- emission of the script, and for it the builder is asked plain calls: those of the constant and of the instruction, those of the
-- switch, or those of the helper. Own.
use Rattle.std.specs.Prelude.{◌≡◌, ◌≢◌, ◌<◌, ◌≤◌, ◌+◌, ◌&&◌, ℕ, ℤ, suc, List, [], ◌∷◌, ◌++◌, length, slice_get, map, is_some, Some, Bool, true, false, OnOk, IfOk, Result, Ok, Err}
use Rattle.clif_types.specs.Signature.{SignatureShape}
use Rattle.clif_types.specs.Types.{is_int}
use Rattle.clif_types.specs.declared.error.BuildError.{BuildError}
use Rattle.clif_types.specs.declared.target.TargetFrontendConfig.{TargetFrontendConfig}
use Rattle.clif_types.specs.declared.types.«Type».{«Type»}
use Rattle.clif_ir.specs.Body.{Body}
use Rattle.clif_opcodes.specs.declared.opcodes.BinaryOpcode.TheVariants.{Iadd}
use Rattle.clif_instructions.specs.declared.instructions.InstructionData.{InstructionData}
use Rattle.clif_inst_builder.specs.Shapes.{binary, int_compare}
use Rattle.clif_meaning.specs.ByteOperation.{ByteOperation}
use Rattle.clif_meaning.specs.Instruction.{Arithmetic, Binary, Compare, Edge, Instruction}
use Rattle.clif_meaning.specs.Ledger.{Answered, Ledger}
use Rattle.clif_meaning.specs.Name as named
use Rattle.clif_meaning.specs.Request.{AnsweredCall, Script, script_of}
use Rattle.clif_constant_calls.specs.Stands.{BuildsLike, type_in}
use Rattle.clif_constant_operands.specs.Chains.{BuildsWithConstant}
use Rattle.clif_expansion.specs.ConstantCalls.{constant_calls}
use Rattle.clif_expansion.specs.Emission.{AreGenerated, AreGiven, LastResults}
use Rattle.clif_expansion.specs.ScriptCall.{Emit, call_allowed, call_refusal}
use Rattle.clif_expansion.specs.Switching.{IsSwitchCode, switching}
use Rattle.clif_builder.specs.declared.builder.FunctionBuilder.{FunctionBuilder}
use Rattle.clif_builder.specs.Builder.{SameLoans}
use Rattle.clif_builder.specs.Built.{BuildsValue}
use Rattle.clif_builder.specs.Ledger.{ledger_of}
use Rattle.clif_memory_helpers.specs.HelperLines.{HelpersAreLines, how_of}
use Rattle.clif_memory_helpers.specs.Helpers.{Answers, FillsWith, Helps, helper_calls}
use Rattle.clif_memory_helpers.specs.Sizes.{helper_makes}
use Rattle.clif_meaning.specs.Sizes.{Table, made_by_script}
use Rattle.clif_switch_calls.specs.SwitchSizes.{switch_makes}
use Rattle.clif_calls.specs.declared.call.Name.{Name}
use Rattle.clif_calls.specs.declared.call.Call.{Call}
use Rattle.clif_calls.specs.declared.call.Call.TheVariants as call
use Rattle.clif_calls.specs.declared.immediate.ImmediateCall.{ImmediateCall}
use Rattle.clif_calls.specs.declared.immediate.ImmediateCall.TheVariants as immediate
use Rattle.clif_calls.specs.declared.memory.MemoryCall.{MemoryCall}
use Rattle.clif_calls.specs.declared.memory.MemoryCall.TheVariants as memory
use Rattle.clif_calls.specs.declared.switch.SwitchEntry.{SwitchEntry}
use Rattle.clif_resolution.specs.Answers.{value_of}
use Rattle.clif_resolution.specs.Conditions.{is_open}
use Rattle.clif_resolution.specs.declared.answers.Answer.{Answer}
use Rattle.clif_resolution.specs.declared.answers.Answer.TheVariants as answer
use Rattle.clif_resolution.specs.declared.condition.Condition.{Condition}
use Rattle.clif_resolution.specs.declared.answers.CallError.{CallError}
use Rattle.clif_resolution.specs.declared.answers.CallError.TheVariants as error
use Rattle.clif_replay.specs.Cases.{keys_of, switch_under}
use Rattle.clif_replay.specs.declared.make_memory.Operands.{Operands}
use Rattle.clif_replay.specs.Helpers.{IsSized, first_answer, helper_under, moves_nothing, operands_in, operation_in}
use Rattle.clif_replay.specs.Limits.{EmissionMeetsFullTable, MayFill}
use Rattle.clif_replay.specs.Makes.{MakesCall}
use Rattle.clif_replay.specs.Ready.{IsCallJudged, IsJudged, IsReady, no_answer}
use Rattle.clif_replay.specs.Requests.{Naming, emission_under, operand_in, operand_type}

-- the constant
abbrev pub constant_in : ImmediateCall → ℤ
constant_in (immediate.IaddImmS x imm) = imm
constant_in (immediate.IcmpImmS cond x imm) = imm

-- the plain arithmetic that is made on the operand and the constant
abbrev pub plain_in : ImmediateCall → Arithmetic
plain_in (immediate.IaddImmS x imm) = Binary Iadd
plain_in (immediate.IcmpImmS cond x imm) = Compare cond

-- that instruction, of these values
abbrev pub shape_in : ImmediateCall → (x constant : ℕ) → InstructionData
shape_in (immediate.IaddImmS y imm) x constant = binary Iadd x constant
shape_in (immediate.IcmpImmS cond y imm) x constant = int_compare cond x constant

-- the calls that the builder is asked for it, from this place on
abbrev pub plain_calls_under : Naming → Ledger → (place : ℕ) → ImmediateCall → Script
plain_calls_under naming ledger place called =
    constant_calls (plain_in called) (operand_type naming ledger called) (constant_in called) place (naming (operand_in called))

-- in the current block, whose terminator wasn't appended, an integer may be an operand beside a constant
abbrev pub can_take_constant : {R : Type 0} → FunctionBuilder R → (value : ℕ) → Bool
can_take_constant b value = is_open b && is_int (type_in b value)

-- The plain arithmetic on this value and the constant was built behind it, or an error ended that.
abbrev pub BuildsEmission : {R : Type 0} → ImmediateCall → (x : ℕ) → (old new : FunctionBuilder R) → Result ℕ BuildError → Type 0
BuildsEmission called x old new answer =
    BuildsWithConstant BuildsValue BuildsLike (shape_in called x) (type_in old x) (constant_in called) x old new answer

-- The builder stands for some more calls, which asked this. The answer at the end of the list is known as the results of the last
-- one, behind its number, and earlier ones are known as before.
pub record IsReadyBehind {R : Type 0} (naming : Naming) (declared : SignatureShape) (calls : List AnsweredCall) (plain : Script) (b : FunctionBuilder R) (answers : List Answer) (answer : Answer) : Type 0 where
  pub added : List AnsweredCall
  pub asked : script_of added ≡ plain
  pub last : ℕ
  pub at_end : length (calls ++ added) ≡ suc last
  pub extended : Naming
  pub earlier : (name : Name) → name.place < length answers → extended name ≡ naming name
  pub results : (name : Name) → name.place ≡ length answers → extended name ≡ named.answer_of last (suc name.answer)
  pub ready : IsReady extended declared (calls ++ added) b (answers ++ answer ∷ [])

-- A call was made that is an emission of the script, or wasn't. It is never refused. `Full` is told only where a table was full at
-- one of its instructions, and variables have the types that they had.
pub record MakesEmission {R : Type 0} (called : ImmediateCall) (old new : FunctionBuilder R) (answers : List Answer) (result : Result Answer CallError) : Type 0 where
  pub loans : SameLoans old new
  pub name : OnOk result (new.func.now.name ≡ old.func.now.name)
  pub ready : (naming : Naming) (declared : SignatureShape) (calls : List AnsweredCall) → IsReady naming declared calls old answers
      → IfOk result (IsReadyBehind naming declared calls (plain_calls_under naming (ledger_of calls) (length calls) called) new answers)
  pub judged : (naming : Naming) (declared : SignatureShape) (calls : List AnsweredCall) → IsReady naming declared calls old answers
      → IsJudged (call_allowed (ledger_of calls) (Emit [] (emission_under naming (ledger_of calls) called))) false result
  pub sound : OnOk result (new.failed ≡ false)
  pub refused : (why : Condition) → result ≢ Err (error.Refused why)
  pub full : result ≡ Err error.Full → EmissionMeetsFullTable old.func.now
  pub variables : OnOk result (new.ctx.now.parts.variables ≡ old.ctx.now.parts.variables)

-- SWITCHES ----------------------------------------------------------------------------------------------------------------

-- a switch may be made, and isn't refused, or why it wasn't made
abbrev pub IsSwitchJudged : Ledger → Instruction named.Name named.Name → Result Answer CallError → Type 0
IsSwitchJudged ledger switch result = IsCallJudged (call_allowed ledger (Emit [] switch)) false (is_some (call_refusal ledger (Emit [] switch))) result

-- The builder stands for some more calls, which are code of the switch. It has no answer: the names at the end of the list lead
-- behind all answers of the last call. Earlier ones are known as before.
pub record IsReadyBehindSwitch {R : Type 0} (naming : Naming) (declared : SignatureShape) (calls : List AnsweredCall) (switch : Instruction named.Name named.Name) (b : FunctionBuilder R) (answers : List Answer) (answer : Answer) : Type 0 where
  pub added : List AnsweredCall
  pub block : named.Name
  pub value : named.Name
  pub ty : «Type»
  pub keys : List ℕ
  pub edges : List (Edge named.Name named.Name)
  pub branches : ℕ
  pub tables : ℕ
  pub is : switch ≡ switching keys ty value edges
  pub current : (ledger_of calls).current ≡ Some block
  pub code : IsSwitchCode (script_of calls) (script_of added) block value ty keys edges branches tables
  pub most : (table : Table) → made_by_script (script_of added) table ≤ switch_makes (length keys) table
  pub last : ℕ
  pub at_end : length (calls ++ added) ≡ suc last
  pub given : List Answered
  pub at_given : slice_get (ledger_of (calls ++ added)).answers last ≡ Some given
  pub extended : Naming
  pub earlier : (name : Name) → name.place < length answers → extended name ≡ naming name
  pub behind : (name : Name) → name.place ≡ length answers → extended name ≡ named.answer_of last (length given + name.answer)
  pub nothing : answer ≡ no_answer
  pub ready : IsReady extended declared (calls ++ added) b (answers ++ answer ∷ [])

-- A switch was made, or wasn't. It is refused for its keys alone, and `Full` is told only where it may fill a table. Variables have the
-- types that they had.
pub record MakesSwitch {R : Type 0} (entries : List SwitchEntry) (value otherwise : Name) (old new : FunctionBuilder R) (answers : List Answer) (result : Result Answer CallError) : Type 0 where
  pub loans : SameLoans old new
  pub name : OnOk result (new.func.now.name ≡ old.func.now.name)
  pub ready : (naming : Naming) (declared : SignatureShape) (calls : List AnsweredCall) → IsReady naming declared calls old answers
      → IfOk result (IsReadyBehindSwitch naming declared calls (switch_under naming (ledger_of calls) entries value otherwise) new answers)
  pub judged : (naming : Naming) (declared : SignatureShape) (calls : List AnsweredCall) → IsReady naming declared calls old answers
      → IsSwitchJudged (ledger_of calls) (switch_under naming (ledger_of calls) entries value otherwise) result
  pub full : result ≡ Err error.Full → MayFill (switch_makes (length (keys_of entries))) old.func.now
  pub sound : OnOk result (new.failed ≡ false)
  pub variables : OnOk result (new.ctx.now.parts.variables ≡ old.ctx.now.parts.variables)

-- HELPERS -----------------------------------------------------------------------------------------------------------------

-- The builder was asked the calls of a memory helper, which are a line that stands for its emission. Names at the end of the list
-- lead to what the last call gives, or, where the helper answers nothing, behind all of that. Earlier ones are known as before.
pub record IsReadyBehindHelper {R : Type 0} (config : TargetFrontendConfig) (called : MemoryCall) (naming : Naming) (declared : SignatureShape) (calls : List AnsweredCall) (b : FunctionBuilder R) (answers : List Answer) (answer : Answer) : Type 0 where
  pub filling : ℤ
  pub fills : FillsWith (operation_in called) filling
  pub sized : IsSized (operation_in called)
  pub lines : HelpersAreLines
  pub added : List AnsweredCall
  pub asked : script_of added
      ≡ helper_calls config (operation_in called) filling (ledger_of calls).tables (length calls) (map naming (operands_in called))
  pub last : ℕ
  pub at_end : length (calls ++ added) ≡ suc last
  pub given : List Answered
  pub at_given : slice_get (ledger_of (calls ++ added)).answers last ≡ Some given
  pub extended : Naming
  pub earlier : (name : Name) → name.place < length answers → extended name ≡ naming name
  pub results : (name : Name) → name.place ≡ length answers
      → extended name ≡ named.answer_of last (first_answer (how_of (operation_in called)) given + name.answer)
  pub ready : IsReady extended declared (calls ++ added) b (answers ++ answer ∷ [])

-- A helper of some bytes was made, or wasn't. It is never refused, `Full` is told only where it may fill a table, and variables have the
-- types that they had.
pub record MakesHelper {R : Type 0} (config : TargetFrontendConfig) (called : MemoryCall) (old new : FunctionBuilder R) (answers : List Answer) (result : Result Answer CallError) : Type 0 where
  pub loans : SameLoans old new
  pub name : OnOk result (new.func.now.name ≡ old.func.now.name)
  pub ready : (naming : Naming) (declared : SignatureShape) (calls : List AnsweredCall) → IsReady naming declared calls old answers
      → IfOk result (IsReadyBehindHelper config called naming declared calls new answers)
  pub judged : (naming : Naming) (declared : SignatureShape) (calls : List AnsweredCall) → IsReady naming declared calls old answers
      → IsJudged (call_allowed (ledger_of calls) (helper_under config naming (ledger_of calls) called)) false result
  pub full : result ≡ Err error.Full → MayFill (helper_makes config (operation_in called)) old.func.now
  pub sound : OnOk result (new.failed ≡ false)
  pub refused : (why : Condition) → result ≢ Err (error.Refused why)
  pub variables : OnOk result (new.ctx.now.parts.variables ≡ old.ctx.now.parts.variables)

-- A copy or a fill of no bytes asks only for its condition.
abbrev pub MakesMoved : {R : Type 0} (nothing : Bool) → TargetFrontendConfig → MemoryCall → FunctionBuilder R → FunctionBuilder R → List Answer → Result Answer CallError → Type 0
MakesMoved true config called old new answers result = MakesCall (call.Memory called) old new answers result
MakesMoved false config called old new answers result = MakesHelper config called old new answers result

abbrev pub MakesMemory : {R : Type 0} → TargetFrontendConfig → MemoryCall → FunctionBuilder R → FunctionBuilder R → List Answer → Result Answer CallError → Type 0
MakesMemory config called old new answers result = MakesMoved (moves_nothing (operation_in called)) config called old new answers result

-- what a helper answers, as the answer of the list
abbrev pub as_nothing : Result (Unit {0}) BuildError → Result Answer BuildError
as_nothing (Ok done) = Ok no_answer
as_nothing (Err error) = Err error

abbrev pub as_value : Result ℕ BuildError → Result Answer BuildError
as_value (Ok value) = Ok (answer.Values value 1)
as_value (Err error) = Err error

-- The helper was called on the builder, and this told.
abbrev pub IsHelped : {R : Type 0} → LastResults → TargetFrontendConfig → ByteOperation → List ℕ → FunctionBuilder R → FunctionBuilder R → Result Answer BuildError → Type 0
IsHelped AreGenerated config operation operands old new result =
    (done : Result (Unit {0}) BuildError) × (result ≡ as_nothing done) × Helps config operation operands old new done
IsHelped AreGiven config operation operands old new result =
    (value : Result ℕ BuildError) × (result ≡ as_value value) × Answers config operation operands old new value

abbrev pub CallsHelper : {R : Type 0} → TargetFrontendConfig → ByteOperation → List ℕ → FunctionBuilder R → FunctionBuilder R → Result Answer BuildError → Type 0
CallsHelper config operation operands old new result = IsHelped (how_of operation) config operation operands old new result

-- all values of these
abbrev pub three_values : Operands → List ℕ
three_values values = values.first ∷ values.second ∷ values.third ∷ []

-- the values of a helper's operands: as many of these as there are
abbrev pub values_in : MemoryCall → Operands → List ℕ
values_in (memory.CallLibrary callee first second size) values = three_values values
values_in (memory.Copy dest src size dest_align src_align non_overlapping flags) values = values.first ∷ values.second ∷ []
values_in (memory.Fill buffer ch size buffer_align flags) values = values.first ∷ []
values_in (memory.Compare int_cc left right size left_align right_align flags) values = values.first ∷ values.second ∷ []

-- the names of its operands lead to these
abbrev pub AreOperands : Body → List Answer → MemoryCall → Operands → Type 0
AreOperands f answers called values = map (value_of f answers) (operands_in called) ≡ map Some (values_in called values)

-- what the function does that makes any call of a script for this target
abbrev pub MakesScriptCall : {R : Type 0} → TargetFrontendConfig → Call → FunctionBuilder R → FunctionBuilder R → List Answer → Result Answer CallError → Type 0
MakesScriptCall config (call.Immediate called) old new answers result = MakesEmission called old new answers result
MakesScriptCall config (call.Switch entries value otherwise) old new answers result = MakesSwitch entries.items value otherwise old new answers result
MakesScriptCall config (call.Memory called) old new answers result = MakesMemory config called old new answers result
MakesScriptCall config asked old new answers result = MakesCall asked old new answers result
