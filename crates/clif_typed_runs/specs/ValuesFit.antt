-- Values fit their types: in a state of either machine each variable, each name and each value holds as many bits as its type
-- has, and what was returned are values of the types that the function returns. The widths are Cranelift's; the conditions
-- are its verifier's rules on types, said by the typing table.
use Rattle.std.specs.Prelude.{◌≡◌, ℕ, List, ◌++◌, map, Option, Some, None}
use Rattle.std.specs.List.{AllByRecursion}
use Rattle.clif_types.specs.declared.types.«Type».{«Type»}
use Rattle.clif_types.specs.Signature.{SignatureShape}
use Rattle.clif_meaning.specs.Bits.{Bits, IsValue, AreValues}
use Rattle.clif_tables.specs.Callees.{types_of}
use Rattle.clif_meaning.specs.Instruction.{Instruction}
use Rattle.clif_meaning.specs.Machine.{Control, At, HasReturned, HasTrapped, IsStuck}
use Rattle.clif_meaning.specs.Name.{Name}
use Rattle.clif_meaning.specs.Premises.{EachItem}
use Rattle.clif_meaning.specs.Program.{Item, Instruct, Use, Assign, result_types}
use Rattle.clif_meaning.specs.Typing.{IsWellTyped, value_types_at}
use Rattle.clif_meaning.specs.FunctionView.{Placed, FunctionView}
use Rattle.clif_meaning.specs.ScriptMachine.{ScriptRun, ScriptState}
use Rattle.clif_meaning.specs.FunctionMachine.{FunctionRun, FunctionState}

-- STATES ----------------------------------------------------------------------------------------------------------------

-- each place holds a value of its type. One that was given nothing holds zero, which is a value of every type.
abbrev pub HoldValues : {Place : Type 0} → (Place → «Type») → (Place → Bits) → Type 0
HoldValues {Place} type_of bits = (place : Place) → IsValue (type_of place) (bits place)

-- what was returned, if the run has returned, are values of these types
abbrev pub ReturnedValues : {Item : Type 0} → List «Type» → Control Item → Type 0
ReturnedValues returns (HasReturned results) = AreValues returns results
ReturnedValues returns (At rest) = Unit {0}
ReturnedValues returns (HasTrapped reason) = Unit {0}
ReturnedValues returns IsStuck = Unit {0}

-- The values of a state of the script's machine fit, in the run of a script for a function that returns these types.
pub record ScriptFits (run : ScriptRun) (returns : List «Type») (state : ScriptState) : Type 0 where
  pub variables : HoldValues run.variable_type state.variables
  pub names : HoldValues run.name_type state.names
  pub returned : ReturnedValues returns state.control

-- The values of a state of the function's machine fit.
pub record FunctionFits (run : FunctionRun) (state : FunctionState) : Type 0 where
  pub values : HoldValues run.function.value_type state.values
  pub returned : ReturnedValues (types_of run.function.signature.returns) state.control

-- TYPED RUNS ------------------------------------------------------------------------------------------------------------

-- An instruction is well typed, and its results have the types that the typing table gives.
pub record IsTyped {Block Operand : Type 0} (type_of : Operand → «Type») (parameter_types : Block → List «Type»)
    (returns : List «Type») (instruction : Instruction Block Operand) (results : List Operand) : Type 0 where
  pub takes : IsWellTyped type_of parameter_types returns instruction
  pub gives : map type_of results ≡ result_types instruction.operation instruction.controlling

-- the entry's first parameters have these types. Parameters behind them, which are variables', stay zero at the start.
abbrev pub EntryHas : {Block : Type 0} → (Block → List «Type») → List «Type» → Option Block → Type 0
EntryHas parameter_types types None = Unit {0}
EntryHas parameter_types types (Some entry) = (more : List «Type») × (parameter_types entry ≡ types ++ more)

-- the types of a block's parameters in a script's run
abbrev pub name_types_at : ScriptRun → Name → List «Type»
name_types_at run block = map run.name_type (run.program.parameters block)

-- An item of a script is typed: an instruction, or a use or an assignment whose variable has the type of its name.
abbrev pub IsItemTyped : ScriptRun → List «Type» → Item → Type 0
IsItemTyped run returns (Instruct place instruction results) =
    IsTyped run.name_type (name_types_at run) returns instruction results
IsItemTyped run returns (Use variable name) = run.name_type name ≡ run.variable_type variable
IsItemTyped run returns (Assign variable name) = run.name_type name ≡ run.variable_type variable

-- A script's run is typed, for a function of this signature: each item is, the entry's first parameters are the signature's,
-- and the arguments are values of their types.
pub record IsScriptTyped (run : ScriptRun) (signature : SignatureShape) : Type 0 where
  pub items : EachItem (IsItemTyped run (types_of signature.returns)) run.program
  pub entry : EntryHas (name_types_at run) (types_of signature.params) run.program.entry
  pub arguments : AreValues (types_of signature.params) run.world.arguments

abbrev pub IsPlacedTyped : FunctionView → Placed → Type 0
IsPlacedTyped function placed =
    IsTyped function.value_type (value_types_at function) (types_of function.signature.returns) placed.instruction placed.results

-- an alias has the type of the value that it stands for
abbrev pub AliasesTyped : FunctionView → Type 0
AliasesTyped function = (value : ℕ) → function.value_type (function.resolved value) ≡ function.value_type value

-- A function's run is typed: the same, and aliases are.
pub record IsFunctionTyped (run : FunctionRun) : Type 0 where
  pub aliases : AliasesTyped run.function
  pub items : (block : ℕ) → AllByRecursion (IsPlacedTyped run.function) (run.function.blocks block).items
  pub entry : EntryHas (value_types_at run.function) (types_of run.function.signature.params) run.function.entry
  pub arguments : AreValues (types_of run.function.signature.params) run.world.arguments
