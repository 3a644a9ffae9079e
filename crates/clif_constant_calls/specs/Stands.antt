-- What a builder stands for behind a sum with a constant, or behind a comparison with one: the same list of calls with the plain
-- calls at its end. Own, after the documentation of Cranelift's `InstBuilder`.
use Rattle.std.specs.Prelude.{◌≡◌, ℕ, ℤ, List, ◌++◌, length, Result, IfOk}
use Rattle.clif_types.specs.Signature.{SignatureShape}
use Rattle.clif_types.specs.declared.condcodes.IntCC.{IntCC}
use Rattle.clif_types.specs.declared.error.BuildError.{BuildError}
use Rattle.clif_types.specs.declared.types.«Type».{«Type»}
use Rattle.clif_opcodes.specs.declared.opcodes.BinaryOpcode.TheVariants.{Iadd}
use Rattle.clif_instructions.specs.declared.instructions.InstructionData.{InstructionData}
use Rattle.clif_inst_builder.specs.Shapes.{binary, int_compare}
use Rattle.clif_ir.specs.Body.{value_at}
use Rattle.clif_meaning.specs.Instruction.{Arithmetic, Binary, Compare}
use Rattle.clif_meaning.specs.Name.{Name, answer_of}
use Rattle.clif_meaning.specs.Request.{AnsweredCall, Script, script_of}
use Rattle.clif_builder.specs.declared.builder.FunctionBuilder.{FunctionBuilder}
use Rattle.clif_builder.specs.Built.{BuildsValue}
use Rattle.clif_builder.specs.Ledger.{NamesValue}
use Rattle.clif_builder.specs.StandsFor.{StandsFor}
use Rattle.clif_constant_operands.specs.Chains.{BuildsWithConstant}
use Rattle.clif_expansion.specs.ConstantCalls.{constant_calls}
use Rattle.clif_expansion.specs.Constants.{place_behind}

-- The builder stands for the list with these plain calls at its end, answered in some way, and this names the value.
pub record StandsWith {R : Type 0} (signature : SignatureShape) (calls : List AnsweredCall) (plain : Script) (name : Name) (new : FunctionBuilder R) (value : ℕ) : Type 0 where
  pub added : List AnsweredCall
  pub asked : script_of added ≡ plain
  pub stands : StandsFor signature (calls ++ added) new
  pub named : NamesValue (calls ++ added) name value

-- the type of a value of the builder's function
abbrev pub type_in : {R : Type 0} → FunctionBuilder R → ℕ → «Type»
type_in b x = (value_at b.func.now x).ty

-- what a builder makes of an instruction at the type of a value
abbrev pub BuildsLike : {R : Type 0} (old new : FunctionBuilder R) → InstructionData → (like : ℕ) → Result ℕ BuildError → Type 0
BuildsLike old new shape like answer = BuildsValue old new shape (type_in old like) answer

-- Behind the constant and the instruction of this shape a builder stands for the list with the calls of the arithmetic at its end.
abbrev pub StandsBehind : (R : Type 0) → Arithmetic → (shape : ℕ → ℕ → InstructionData) → Type 0
StandsBehind R arithmetic shape =
    (signature : SignatureShape) (calls : List AnsweredCall) (old new : FunctionBuilder R) (name : Name) (x : ℕ) (imm : ℤ) (answer : Result ℕ BuildError)
    → StandsFor signature calls old → NamesValue calls name x
    → BuildsWithConstant BuildsValue BuildsLike (shape x) (type_in old x) imm x old new answer
    → IfOk answer (StandsWith signature calls (constant_calls arithmetic (type_in old x) imm (length calls) name)
    (answer_of (place_behind (type_in old x) (length calls)) 1) new)

pub record ConstantOperandsStand (R : Type 0) : Type 0 where
  pub adds : StandsBehind R (Binary Iadd) (λ x constant. binary Iadd x constant)
  pub compares : (condition : IntCC) → StandsBehind R (Compare condition) (λ x constant. int_compare condition x constant)
