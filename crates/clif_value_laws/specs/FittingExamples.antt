-- Values and their types, worked out: a function of two parameters of 8 bits that returns their sum, on arguments whose sum
-- has 9 bits. Own.
use Rattle.std.specs.Prelude.{◌^◌, ◌==◌, ℕ, zero, suc, if◌then◌else◌, false, [], ◌∷◌, Some}
use Rattle.clif_types.specs.declared.types.«Type».{«Type»}
use Rattle.clif_types.specs.declared.types.«Type».TheVariants as type
use Rattle.clif_types.specs.declared.call_conv.CallConv.TheVariants.{SystemV}
use Rattle.clif_types.specs.Signature.{SignatureShape}
use Rattle.clif_opcodes.specs.declared.opcodes.BinaryOpcode.TheVariants.{Iadd}
use Rattle.clif_meaning.specs.Examples.{first_function, first_script, i8, i32, placed}
use Rattle.clif_meaning.specs.BranchExamples.{no_block}
use Rattle.clif_meaning.specs.FunctionMachine.{ByMaps, FunctionRun, FunctionState, function_machine}
use Rattle.clif_meaning.specs.FunctionView.{BlockView, FunctionView}
use Rattle.clif_meaning.specs.Headline.{script_run}
use Rattle.clif_meaning.specs.Instruction.{Binary, Compute, Return}
use Rattle.clif_meaning.specs.Machine.{HasReturned, IsStuck, state_after}
use Rattle.clif_meaning.specs.ScriptMachine.{ScriptRun, ScriptState, script_machine}
use Rattle.clif_meaning.specs.Program.{empty_program}
use Rattle.clif_meaning.specs.World.{World}
use Rattle.clif_typed_runs.specs.ValuesFit.{FunctionFits, IsFunctionTyped, ScriptFits}

-- block0(v0: i8, v1: i8): v2 = iadd v0, v1; return v2
abbrev pub sum_blocks : ℕ → BlockView
sum_blocks zero = record {
  parameters = 0 ∷ 1 ∷ [];
  items = placed (Compute (Binary Iadd)) i8 (0 ∷ 1 ∷ []) (2 ∷ []) ∷ placed Return type.Invalid (2 ∷ []) [] ∷ [];
}
sum_blocks (suc number) = no_block

abbrev pub sum_signature : SignatureShape
sum_signature = record {
  params = record { value_type = i8 } ∷ record { value_type = i8 } ∷ [];
  returns = record { value_type = i8 } ∷ [];
  call_conv = SystemV;
}

-- the function, where values have these types
abbrev pub sum_function : (ℕ → «Type») → FunctionView
sum_function value_type = record {
  signature = sum_signature;
  entry = Some 0;
  blocks = sum_blocks;
  resolved = λ v. v;
  value_type = value_type;
  slots = [];
}

-- its run on two arguments, and the state behind the sum
abbrev pub sum_run : (ℕ → «Type») → (first second : ℕ) → World → FunctionRun
sum_run value_type first second world = record {
  function = sum_function value_type;
  collector = ByMaps;
  hidden = λ address. false;
  world = record world { arguments = first ∷ second ∷ [] };
}

abbrev pub bytes : World → FunctionRun
bytes world = sum_run (λ v. i8) 200 100 world

abbrev pub summed : World → FunctionState
summed world = state_after (function_machine (bytes world)) 1

-- a run of no script, in which each variable has 8 bits and each name 32, and a state in which all of them hold a number
abbrev pub two_widths : World → ScriptRun
two_widths world = record {
  program = empty_program;
  variable_type = λ v. i8;
  name_type = λ x. i32;
  is_marked = λ v. false;
  is_tracked = λ x. false;
  hidden = λ address. false;
  world = world;
}

abbrev pub holding : ℕ → World → ScriptState
holding number world = record {
  variables = λ v. number;
  names = λ x. number;
  memory = world.memory;
  events = [];
  control = IsStuck;
}

-- the run of the row `first`, which takes no argument
abbrev pub row_run : World → ScriptRun
row_run world = script_run first_script first_function (record world { arguments = [] })

pub record FittingExamples (world : World) : Type 0 where
  -- 200 + 100 is 44 at 8 bits, and the state behind the sum fits
  pub typed : IsFunctionTyped (bytes world)
  pub fits : FunctionFits (bytes world) (summed world)
  -- with 300 as the sum it doesn't, nor does it where 300 is returned, or more than the function returns
  pub too_wide : FunctionFits (bytes world) (record (summed world) { values = λ v. 300 }) → ⊥
  pub returned_too_wide : FunctionFits (bytes world) (record (summed world) { control = HasReturned (300 ∷ []) }) → ⊥
  pub returned_twice : FunctionFits (bytes world) (record (summed world) { control = HasReturned (44 ∷ 44 ∷ []) }) → ⊥
  -- an argument of 9 bits is none of this function, and its sum has no 32 bits
  pub wide_argument : IsFunctionTyped (sum_run (λ v. i8) 300 100 world) → ⊥
  pub wide_result : IsFunctionTyped (sum_run (λ v. if v == 2 then i32 else i8) 200 100 world) → ⊥
  -- 255 fits 8 bits and 32, and 256 doesn't fit the variables
  pub script_fits : ScriptFits (two_widths world) [] (holding 255 world)
  pub script_too_wide : ScriptFits (two_widths world) [] (holding 256 world) → ⊥
  pub names_too_wide : ScriptFits (two_widths world) [] (record (holding 0 world) { names = λ x. 2 ^ 32 }) → ⊥
  -- the values of the row `first` fit in each state
  pub row : (n : ℕ) → ScriptFits (row_run world) (i32 ∷ []) (state_after (script_machine (row_run world)) n)
