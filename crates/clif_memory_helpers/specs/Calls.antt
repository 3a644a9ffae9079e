-- A memory helper is one call of a script, where pointers have the width of its configuration. Own, after the documentation of the
-- methods of `MemoryHelpers`.
use Rattle.std.specs.Prelude.{◌≡◌, ◌<◌, ℕ, IsTrue, List, [], ◌∷◌, ◌++◌, length, Result, IfOk, OnOk}
use Rattle.std.specs.List.{AllZip}
use Rattle.clif_types.specs.Signature.{SignatureShape}
use Rattle.clif_types.specs.declared.error.BuildError.{BuildError}
use Rattle.clif_types.specs.declared.target.PointerWidth.{PointerWidth}
use Rattle.clif_types.specs.declared.target.TargetFrontendConfig.{TargetFrontendConfig}
use Rattle.clif_meaning.specs.ByteOperation.{ByteOperation, CallLibrary, CompareBytes, Copy, Fill}
use Rattle.clif_meaning.specs.Ledger.{Ledger}
use Rattle.clif_meaning.specs.Name.{Name, answer_of}
use Rattle.clif_builder.specs.declared.builder.FunctionBuilder.{FunctionBuilder}
use Rattle.clif_builder.specs.Ledger.{NamesValue}
use Rattle.clif_builder.specs.StandsForCalls.{LeadsToValue, StandsForCalls, StandsOnFor}
use Rattle.clif_expansion.specs.Emission.{AreGiven}
use Rattle.clif_expansion.specs.Reading.{IsReadAs}
use Rattle.clif_expansion.specs.ScriptCall.{Emit, ScriptCall, call_allowed, ledger_of}
use Rattle.clif_memory_helpers.specs.HelperLines.{emission_of, has_64, how_of, imports_for}
use Rattle.clif_memory_helpers.specs.Helpers.{Answers, Helps, MayHelp}

-- the call of a script, at this ledger, with these names of its operands
abbrev pub helping : TargetFrontendConfig → Ledger → ByteOperation → List Name → ScriptCall
helping config ledger operation names = Emit (imports_for config operation ledger.tables) (emission_of config operation names)

-- sizes have 64 bits, and a byte is a number of 8 bits
abbrev pub IsSized : ByteOperation → Type 0
IsSized (Copy copy) = has_64 copy.size
IsSized (Fill fill) = has_64 fill.size × (fill.byte < 256)
IsSized (CompareBytes compared) = has_64 compared.size
IsSized (CallLibrary callee) = Unit {0}

-- The script's names of the operands stand for names of the builder's calls that lead to them.
pub record LeadToOperands {R : Type 0} {width : PointerWidth} {declared : SignatureShape} {calls : List ScriptCall} {b : FunctionBuilder R}
    (so_far : StandsForCalls width declared calls b) (names : List Name) (operands : List ℕ) : Type 0 where
  pub plain : List Name
  pub named : AllZip (NamesValue so_far.made) plain operands
  pub read : AllZip (IsReadAs so_far.reading) plain names

-- Behind a helper a builder that stood for the calls of a script stands for them with the helper's as one more, if that was allowed; of
-- no bytes a copy or a fill isn't. The name of its answer leads to the value, where it has one.
pub record HelpersStandForCalls (R : Type 0) : Type 0 where
  pub helps : (config : TargetFrontendConfig) (declared : SignatureShape) (calls : List ScriptCall) (old new : FunctionBuilder R)
      (before : StandsForCalls config.pointer_width declared calls old) (operation : ByteOperation) (operands : List ℕ) (names : List Name)
      (answer : Result (Unit {0}) BuildError) → MayHelp old config operation operands → IsSized operation → LeadToOperands before names operands
      → IsTrue (call_allowed (ledger_of calls) (helping config (ledger_of calls) operation names)) → Helps config operation operands old new answer
      → OnOk answer (StandsOnFor before (calls ++ helping config (ledger_of calls) operation names ∷ []) new)
  pub answers : (config : TargetFrontendConfig) (declared : SignatureShape) (calls : List ScriptCall) (old new : FunctionBuilder R)
      (before : StandsForCalls config.pointer_width declared calls old) (operation : ByteOperation) (operands : List ℕ) (names : List Name)
      (answer : Result ℕ BuildError) → how_of operation ≡ AreGiven → MayHelp old config operation operands → IsSized operation → LeadToOperands before names operands
      → IsTrue (call_allowed (ledger_of calls) (helping config (ledger_of calls) operation names)) → Answers config operation operands old new answer
      → IfOk answer (λ value. (on : StandsOnFor before (calls ++ helping config (ledger_of calls) operation names ∷ []) new)
      × LeadsToValue on.0 (answer_of (length (ledger_of calls).answers) 0) value)
