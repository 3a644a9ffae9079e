-- Laws of values and their types, as the contracts of this crate's functions state them.
use Rattle.std.specs.Prelude.{ℕ, List, [], ◌∷◌}
use Rattle.clif_types.specs.declared.types.«Type».{«Type»}
use Rattle.clif_types.specs.Signature.{SignatureShape}
use Rattle.clif_tables.specs.Callees.{types_of}
use Rattle.clif_meaning.specs.Machine.{Control, At, HasReturned, HasTrapped, IsStuck, state_after}
use Rattle.clif_meaning.specs.Premises.{OfNextItem}
use Rattle.clif_meaning.specs.FunctionView.{Placed}
use Rattle.clif_meaning.specs.ScriptMachine.{ScriptRun, ScriptState, script_step, script_machine}
use Rattle.clif_meaning.specs.FunctionMachine.{FunctionRun, FunctionState, function_step, function_machine}
use Rattle.clif_byte_laws.specs.Pieces.{HoldsBytes}
use Rattle.clif_typed_runs.specs.ValuesFit.{AliasesTyped, FunctionFits, IsFunctionTyped, IsItemTyped, IsPlacedTyped, IsScriptTyped, ScriptFits}

-- what is asked of the instruction that a state of the function's machine stands before
abbrev pub OfNextPlaced : (Placed → Type 0) → Control Placed → Type 0
OfNextPlaced P (At []) = Unit {0}
OfNextPlaced P (At (placed ∷ rest)) = P placed
OfNextPlaced P (HasReturned results) = Unit {0}
OfNextPlaced P (HasTrapped reason) = Unit {0}
OfNextPlaced P IsStuck = Unit {0}

-- A step from a state whose values fit, if what it carries out is typed, leads to one whose values fit. What an access claims
-- need not be true: the run is stuck then.
abbrev pub ScriptStepsFit : Type 0
ScriptStepsFit =
    (run : ScriptRun) (returns : List «Type») (state : ScriptState)
    → OfNextItem (IsItemTyped run returns) state.control
    → ScriptFits run returns state → ScriptFits run returns (script_step run state)

abbrev pub FunctionStepsFit : Type 0
FunctionStepsFit =
    (run : FunctionRun) (state : FunctionState)
    → AliasesTyped run.function → OfNextPlaced (IsPlacedTyped run.function) state.control
    → FunctionFits run state → FunctionFits run (function_step run state)

-- In each state of a typed run the values fit.
abbrev pub ScriptRunsFit : Type 0
ScriptRunsFit =
    (run : ScriptRun) (signature : SignatureShape) → IsScriptTyped run signature
    → (n : ℕ) → ScriptFits run (types_of signature.returns) (state_after (script_machine run) n)

abbrev pub FunctionRunsFit : Type 0
FunctionRunsFit =
    (run : FunctionRun) → IsFunctionTyped run
    → (n : ℕ) → FunctionFits run (state_after (function_machine run) n)

-- In each state of a script's run memory holds bytes, typed or not.
abbrev pub MemoryHoldsBytes : Type 0
MemoryHoldsBytes = (run : ScriptRun) (n : ℕ) → HoldsBytes (state_after (script_machine run) n).memory
