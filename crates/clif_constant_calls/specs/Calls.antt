-- A sum with a constant, or a comparison with one, is one call of a script. Own, after the documentation of Cranelift's `InstBuilder`.
use Rattle.std.specs.Prelude.{ℕ, ℤ, IsTrue, List, [], ◌∷◌, ◌++◌, length, Result, IfOk}
use Rattle.clif_types.specs.Signature.{SignatureShape}
use Rattle.clif_types.specs.declared.condcodes.IntCC.{IntCC}
use Rattle.clif_types.specs.declared.error.BuildError.{BuildError}
use Rattle.clif_types.specs.declared.target.PointerWidth.{PointerWidth}
use Rattle.clif_opcodes.specs.declared.opcodes.BinaryOpcode.TheVariants.{Iadd}
use Rattle.clif_instructions.specs.declared.instructions.InstructionData.{InstructionData}
use Rattle.clif_inst_builder.specs.Shapes.{binary, int_compare}
use Rattle.clif_meaning.specs.Instruction.{AddConstant, Arithmetic, CompareConstant}
use Rattle.clif_meaning.specs.Name.{Name, answer_of}
use Rattle.clif_builder.specs.declared.builder.FunctionBuilder.{FunctionBuilder}
use Rattle.clif_builder.specs.Built.{BuildsValue}
use Rattle.clif_builder.specs.StandsForCalls.{LeadsToValue, StandsForCalls, StandsOnFor}
use Rattle.clif_constant_operands.specs.Chains.{BuildsWithConstant}
use Rattle.clif_expansion.specs.Constants.{computing}
use Rattle.clif_expansion.specs.ScriptCall.{Emit, ScriptCall, call_allowed, ledger_of}
use Rattle.clif_constant_calls.specs.Stands.{BuildsLike, type_in}

-- The arithmetic on this name, at the type of its value, as the script has it.
abbrev pub emitting : {R : Type 0} → FunctionBuilder R → Arithmetic → (name : Name) (x : ℕ) → ScriptCall
emitting b whole name x = Emit [] (computing whole (type_in b x) (name ∷ []))

-- Behind the constant and the instruction of this shape a builder that stood for the calls of a script stands for them with the whole
-- arithmetic as one more, if that was allowed; and the name of its answer leads to the value.
abbrev pub StandsAsOne : (R : Type 0) → (whole : ℤ → Arithmetic) → (shape : ℕ → ℕ → InstructionData) → Type 0
StandsAsOne R whole shape =
    (width : PointerWidth) (declared : SignatureShape) (calls : List ScriptCall) (old new : FunctionBuilder R) (before : StandsForCalls width declared calls old)
    (name : Name) (x : ℕ) (imm : ℤ) (answer : Result ℕ BuildError) → LeadsToValue before name x
    → IsTrue (call_allowed (ledger_of calls) (emitting old (whole imm) name x))
    → BuildsWithConstant BuildsValue BuildsLike (shape x) (type_in old x) imm x old new answer
    → IfOk answer (λ value. (on : StandsOnFor before (calls ++ emitting old (whole imm) name x ∷ []) new)
    × LeadsToValue on.0 (answer_of (length (ledger_of calls).answers) 0) value)

pub record ConstantsStandForCalls (R : Type 0) : Type 0 where
  pub adds : StandsAsOne R AddConstant (λ x constant. binary Iadd x constant)
  pub compares : (condition : IntCC) → StandsAsOne R (CompareConstant condition) (λ x constant. int_compare condition x constant)
