-- Zeros, which stand for variables where nothing assigns them: by type, the instructions of one, and where it stands.
-- Source: own, after Braun et al. 2013 (an undefined variable), and the zeros that cranelift's SSA builder makes.
use Rattle.std.specs.Prelude.{◌≡◌, ℕ, zero, suc, ◌+◌, ◌-◌, ◌<◌, List, [], ◌∷◌, ◌++◌, length, replicate, MatchOption, Option, Some, None, slice_get, pos}
use Rattle.std.specs.List.{range_with_len}
use Rattle.clif_types.specs.declared.types.LaneType.TheVariants as lane
use Rattle.clif_types.specs.declared.types.«Type».{«Type»}
use Rattle.clif_types.specs.declared.types.«Type».TheVariants as type
use Rattle.clif_types.specs.Types.{bytes_of}
use Rattle.clif_tables.specs.Constants.{constant_of}
use Rattle.clif_tables.specs.Lists.{TableLists, with_constant}
use Rattle.clif_ir.specs.Body.{Body, inst_at}
use Rattle.clif_ir.specs.Changes.{with_tables}
use Rattle.clif_instructions.specs.declared.instructions.InstructionData.{InstructionData}
use Rattle.clif_instructions.specs.declared.instructions.InstructionData.TheVariants.{UnaryImm, UnaryIeee, UnaryConst, Convert}
use Rattle.clif_opcodes.specs.declared.opcodes.ConvertOpcode.TheVariants.{Splat, Uextend}
use Rattle.clif_opcodes.specs.declared.opcodes.PooledConstOpcode.TheVariants.{F128const, Vconst}
use Rattle.clif_opcodes.specs.declared.opcodes.FloatConstOpcode.{FloatConstOpcode}
use Rattle.clif_opcodes.specs.declared.opcodes.FloatConstOpcode.TheVariants.{F16const, F32const, F64const}
use Rattle.clif_ssa.specs.declared.zeros.ZeroKind.{ZeroKind}
use Rattle.clif_ssa.specs.declared.zeros.ZeroKind.TheVariants as made

-- an instruction of a zero: its shape, by the constant that it names and the result of the one before, the type of its own
-- result, and how many zero bytes its constant has, if it names one
pub record ZeroStep : Type 0 where
  pub shape : (constant value : ℕ) → InstructionData
  pub ty : «Type»
  pub size : Option ℕ

-- The steps that come before the last one, and the shape of the last one. Its result is the zero, and has the zero's type.
pub record ZeroRow : Type 0 where
  pub before : List ZeroStep
  pub last : (constant value : ℕ) → InstructionData

-- how the zero of a type is made
abbrev pub kind_of_zero : «Type» → ZeroKind
kind_of_zero (type.Lane lane.I128) = made.Extended
kind_of_zero (type.Lane lane.F16) = made.Float F16const
kind_of_zero (type.Lane lane.F32) = made.Float F32const
kind_of_zero (type.Lane lane.F64) = made.Float F64const
kind_of_zero (type.Lane lane.F128) = made.Pooled F128const
kind_of_zero (type.Vector lane.F16 count) = made.Splatted F16const
kind_of_zero (type.Vector lane.F32 count) = made.Splatted F32const
kind_of_zero (type.Vector lane.F64 count) = made.Splatted F64const
kind_of_zero (type.Vector lane.F128 count) = made.SplattedPooled
kind_of_zero (type.Vector l count) = made.Pooled Vconst
kind_of_zero _ = made.Number

-- the type of a float constant
abbrev pub float_type : FloatConstOpcode → «Type»
float_type F16const = type.Lane lane.F16
float_type F32const = type.Lane lane.F32
float_type F64const = type.Lane lane.F64

-- a step that names no constant
abbrev pub unpooled : (ℕ → InstructionData) → «Type» → ZeroStep
unpooled shape ty = record { shape = λ constant value. shape value; ty = ty; size = None }

-- THE TABLE: the instructions of each kind of zero
abbrev pub row_of_kind : ZeroKind → ZeroRow
row_of_kind made.Number = record { before = []; last = λ constant value. UnaryImm (pos 0) }
row_of_kind made.Extended =
    record { before = unpooled (λ value. UnaryImm (pos 0)) (type.Lane lane.I64) ∷ []; last = λ constant value. Convert Uextend value }
row_of_kind (made.Float opcode) = record { before = []; last = λ constant value. UnaryIeee opcode 0 }
row_of_kind (made.Splatted opcode) =
    record { before = unpooled (λ value. UnaryIeee opcode 0) (float_type opcode) ∷ []; last = λ constant value. Convert Splat value }
row_of_kind (made.Pooled opcode) = record { before = []; last = λ constant value. UnaryConst opcode constant }
row_of_kind made.SplattedPooled = record {
  before = record { shape = λ constant value. UnaryConst F128const constant; ty = type.Lane lane.F128; size = Some 16 } ∷ [];
  last = λ constant value. Convert Splat value;
}

-- how many zero bytes the last instruction's constant has, if it names one
abbrev pub last_size : ZeroKind → «Type» → Option ℕ
last_size (made.Pooled opcode) ty = Some (bytes_of ty)
last_size _ ty = None

-- how many zero bytes the constant of the zero has, if an instruction of it names one
abbrev pub constant_size : ZeroKind → «Type» → Option ℕ
constant_size made.SplattedPooled ty = Some 16
constant_size kind ty = last_size kind ty

-- the instructions of a kind of zero of a type, in order
abbrev pub steps_of_kind : ZeroKind → «Type» → List ZeroStep
steps_of_kind kind ty = (row_of_kind kind).before ++ record { shape = (row_of_kind kind).last; ty = ty; size = last_size kind ty } ∷ []

-- the zero of each type
unfoldable pub zero_row : «Type» → ZeroRow
zero_row ty = row_of_kind (kind_of_zero ty)

-- how many steps come before the one whose result is the zero
abbrev pub steps_before : «Type» → ℕ
steps_before ty = length (zero_row ty).before

-- the instructions of a zero of a type, in order
abbrev pub zero_steps : «Type» → List ZeroStep
zero_steps ty = (zero_row ty).before ++ record { shape = (zero_row ty).last; ty = ty; size = last_size (kind_of_zero ty) ty } ∷ []

-- the instruction of a zero at a place among its steps, with a constant and behind a value, and the type of its result, if it
-- has so many steps
abbrev pub IsStepAt : «Type» → (place constant before : ℕ) → Option (InstructionData × «Type») → Type 0
IsStepAt ty place constant before result =
    MatchOption (slice_get (zero_steps ty) place) (result ≡ None) (λ (step : ZeroStep). result ≡ Some (step.shape constant before, step.ty))

-- the step at a place of a zero that has one step, or two
abbrev pub only_step : ℕ → InstructionData → «Type» → Option (InstructionData × «Type»)
only_step zero shape ty = Some (shape, ty)
only_step (suc place) shape ty = None

abbrev pub first_or_last_step : ℕ → InstructionData → «Type» → InstructionData → «Type» → Option (InstructionData × «Type»)
first_or_last_step zero first first_type last ty = Some (first, first_type)
first_or_last_step (suc zero) first first_type last ty = Some (last, ty)
first_or_last_step (suc (suc place)) first first_type last ty = None

-- CONSTANTS ------------------------------------------------------------------------------------------------------

-- the number of a constant of so many zero bytes among these, or the next one; 0 where none is named
abbrev pub zeros_number : List (List ℕ) → Option ℕ → ℕ
zeros_number constants None = 0
zeros_number constants (Some size) = constant_of constants (replicate size 0)

-- tables with a constant of so many zero bytes, if one is named
abbrev pub with_zeros : TableLists → Option ℕ → TableLists
with_zeros tables None = tables
with_zeros tables (Some size) = with_constant tables (replicate size 0)

-- how many zero bytes the constant of a type's zero has, if it has one
unfoldable pub zero_size : «Type» → Option ℕ
zero_size ty = constant_size (kind_of_zero ty) ty

-- the function with the constant of a type's zero
abbrev pub with_pooled : Body → «Type» → Body
with_pooled f ty = with_tables f (with_zeros f.tables (zero_size ty))

-- the constant has so many zero bytes, if it is named
abbrev pub HasZeros : Body → ℕ → Option ℕ → Type 0
HasZeros f constant None = Unit {0}
HasZeros f constant (Some size) = slice_get f.tables.constants constant ≡ Some (replicate size 0)

-- the constant of a type's zero, which is pooled, if it has one
abbrev pub IsZeroConstant : Body → «Type» → ℕ → Type 0
IsZeroConstant f ty constant = (constant ≡ zeros_number f.tables.constants (zero_size ty)) × HasZeros f constant (zero_size ty)

-- WHERE ZEROS STAND -----------------------------------------------------------------------------------------------

-- the first instruction of a zero, the result of that, and the type: its steps have the numbers from these on
pub record ZeroAt : Type 0 where
  pub inst : ℕ
  pub value : ℕ
  pub ty : «Type»

-- its instructions
abbrev pub insts_of_zero : ZeroAt → List ℕ
insts_of_zero z = range_with_len z.inst (length (zero_steps z.ty))

-- the zero itself
abbrev pub value_of_zero : ZeroAt → ℕ
value_of_zero z = z.value + steps_before z.ty

-- the instructions of several, one zero after the other
abbrev pub insts_of_zeros : List ZeroAt → List ℕ
insts_of_zeros [] = []
insts_of_zeros (z ∷ zeros) = insts_of_zero z ++ insts_of_zeros zeros

-- the instruction is this step, with this value as its one result; its operand, if it has one, is the value before, and its
-- constant, if it names one, has zero bytes
pub record IsStep (f : Body) (inst value : ℕ) (step : ZeroStep) : Type 0 where
  pub exists : inst < length f.insts
  pub value_exists : value < length f.values
  pub constant : ℕ
  pub zeros : HasZeros f constant step.size
  pub shape : (inst_at f inst).shape ≡ step.shape constant (value - 1)
  pub result : (inst_at f inst).results ≡ value ∷ []

-- the zero stands in the function: each of its instructions is the step at its place
abbrev pub HasZero : Body → ZeroAt → Type 0
HasZero f z = (k : ℕ) (step : ZeroStep) → slice_get (zero_steps z.ty) k ≡ Some step → IsStep f (z.inst + k) (z.value + k) step
