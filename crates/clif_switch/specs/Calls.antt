-- A switch is one call of a script. Own, after the module `switch` of cranelift-frontend.
use Rattle.std.specs.Prelude.{◌≡◌, ℕ, IsTrue, List, [], ◌∷◌, ◌++◌, Some, Result, OnOk}
use Rattle.std.specs.FinMap as map
use Rattle.clif_types.specs.Signature.{SignatureShape}
use Rattle.clif_types.specs.declared.target.PointerWidth.{PointerWidth}
use Rattle.clif_ranges.specs.Cases.{CaseMap}
use Rattle.clif_ranges.specs.declared.error.SwitchError.{SwitchError}
use Rattle.clif_builder.specs.declared.builder.FunctionBuilder.{FunctionBuilder}
use Rattle.clif_builder.specs.StandsForCalls.{StandsForCalls, StandsOnFor}
use Rattle.clif_expansion.specs.Reading.{IsReadAs}
use Rattle.clif_expansion.specs.ScriptCall.{Emit, ScriptCall, call_allowed, ledger_of}
use Rattle.clif_expansion.specs.Switching.{switching}
use Rattle.clif_switch_calls.specs.SwitchCalls.{Switched}
use Rattle.clif_switch_calls.specs.SwitchLaw.{case_edges, case_keys}
use Rattle.clif_switch.specs.Switches.{Emits, NamesSwitch}

-- the call of a script: the switch of the value with this name, to blocks by their names
abbrev pub switch_of : Switched → CaseMap → ScriptCall
switch_of s cases = Emit [] (switching (case_keys cases) s.ty s.value (case_edges s cases))

-- The names of the script's switch stand for names of the builder's calls that lead to its value, which has its type, to the block
-- `otherwise`, and to the blocks of its cases.
pub record LeadsToSwitch {R : Type 0} {width : PointerWidth} {declared : SignatureShape} {calls : List ScriptCall} {b : FunctionBuilder R}
    (so_far : StandsForCalls width declared calls b) (s : Switched) (cases : CaseMap) (value otherwise : ℕ) : Type 0 where
  pub plain : Switched
  pub named : NamesSwitch so_far.made plain cases value otherwise
  pub typed : plain.ty ≡ s.ty
  pub value_read : IsReadAs so_far.reading plain.value s.value
  pub otherwise_read : IsReadAs so_far.reading plain.otherwise s.otherwise
  pub cases_read : (key block : ℕ) → map.get cases key ≡ Some block → IsReadAs so_far.reading (plain.named block) (s.named block)

-- Behind a switch a builder that stood for the calls of a script stands for them with the switch as one more, if that was allowed.
abbrev pub SwitchesStandForCalls : (R : Type 0) → Type 0
SwitchesStandForCalls R =
    (width : PointerWidth) (declared : SignatureShape) (calls : List ScriptCall) (old new : FunctionBuilder R) (before : StandsForCalls width declared calls old)
    (s : Switched) (cases : CaseMap) (value otherwise : ℕ) (answer : Result (Unit {0}) SwitchError) → LeadsToSwitch before s cases value otherwise
    → IsTrue (call_allowed (ledger_of calls) (switch_of s cases)) → Emits cases value otherwise old new answer
    → OnOk answer (StandsOnFor before (calls ++ switch_of s cases ∷ []) new)
