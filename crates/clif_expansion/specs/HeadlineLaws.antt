-- Laws of the theorem on calls of a script, as the contracts of this crate's functions state them.
use Rattle.std.specs.Prelude.{◌↔◌, ℕ, Bool, List, map}
use Rattle.clif_tables.specs.Callees.{types_of}
use Rattle.clif_types.specs.declared.target.PointerWidth.{PointerWidth}
use Rattle.clif_types.specs.declared.types.«Type».{«Type»}
use Rattle.clif_types.specs.Signature.{SignatureShape}
use Rattle.clif_meaning.specs.Bits.{AreValues}
use Rattle.clif_meaning.specs.FunctionView.{FunctionView}
use Rattle.clif_meaning.specs.Headline.{MeansTheSame, pointer_bits}
use Rattle.clif_meaning.specs.Ledger.{empty_ledger, ledger_after}
use Rattle.clif_meaning.specs.Library.{pointer_of}
use Rattle.clif_meaning.specs.Machine.{state_after}
use Rattle.clif_meaning.specs.Premises.{CallersEdgesMatch, CallsLibraryAsNamed, ClaimsAreTrue, EachItem, HasGoodTargets, InEachStep, KeepsTrackedApart, PlacementPremises, Premises, WellTyped}
use Rattle.clif_meaning.specs.Program.{program_of}
use Rattle.clif_meaning.specs.Request.{Script}
use Rattle.clif_meaning.specs.ScriptMachine.{ScriptRun, script_machine}
use Rattle.clif_meaning.specs.Tracked.{is_tracked}
use Rattle.clif_meaning.specs.World.{World}
use Rattle.clif_typed_runs.specs.ValuesFit.{ScriptFits}
use Rattle.clif_expansion.specs.CallsHeadline.{CallersEdgesMatchInCalls, CallsMeanTheSame, CallsPlacementPremises, CallsPremises}
use Rattle.clif_expansion.specs.CallsVerdict.{AreCallsAllowed}
use Rattle.clif_expansion.specs.JoinedCalls.{AreJoinedCalls}
use Rattle.clif_expansion.specs.CallsRun.{calls_run, calls_track}
use Rattle.clif_expansion.specs.Laws.{IsSoundRun}
use Rattle.clif_expansion.specs.PerformedCalls.{ArePerformed}
use Rattle.clif_expansion.specs.Reading.{Reading}
use Rattle.clif_expansion.specs.ScriptCall.{Ask, ScriptCall, ledger_of, program_of_calls}

-- Without an emission premises, theorem and edges are those of the script.
pub record AskingMeansTheSame : Type 0 where
  pub premises : (script : Script) (signature : SignatureShape) (pointer : «Type») (run : ScriptRun)
      → Premises script signature pointer run ↔ CallsPremises (map Ask script) signature pointer run
  pub placement : (script : Script) (signature : SignatureShape) → PlacementPremises script signature ↔ CallsPlacementPremises (map Ask script) signature
  pub edges : (script : Script) → CallersEdgesMatch script ↔ CallersEdgesMatchInCalls (map Ask script)
  pub meaning : (script : Script) (signature : SignatureShape) (width : PointerWidth) (function : FunctionView)
      → MeansTheSame script signature width function ↔ CallsMeanTheSame (map Ask script) signature width function

-- What the premises ask of a program, one by one, is true of the plain calls where it is of a script's calls.
pub record JoinedCallsKeepPremises : Type 0 where
  pub targets_filled : (reading : Reading) (plain : Script) (calls : List ScriptCall) → AreJoinedCalls reading plain calls
      → EachItem (HasGoodTargets (ledger_of calls) (program_of_calls calls)) (program_of_calls calls)
      → EachItem (HasGoodTargets (ledger_after plain) (program_of plain)) (program_of plain)
  pub tracked_apart : (reading : Reading) (plain : Script) (calls : List ScriptCall) → AreJoinedCalls reading plain calls
      → EachItem (KeepsTrackedApart (ledger_of calls) (calls_track calls)) (program_of_calls calls)
      → EachItem (KeepsTrackedApart (ledger_after plain) (is_tracked plain)) (program_of plain)
  pub edges_match : (reading : Reading) (plain : Script) (calls : List ScriptCall) → AreJoinedCalls reading plain calls
      → CallersEdgesMatchInCalls calls → CallersEdgesMatch plain
  pub well_typed : (pointer_width : ℕ) (reading : Reading) (plain : Script) (calls : List ScriptCall) (joined : AreJoinedCalls reading plain calls)
      → ArePerformed pointer_width reading plain calls joined
      → (signature : SignatureShape) → WellTyped (ledger_of calls) (program_of_calls calls) signature → WellTyped (ledger_after plain) (program_of plain) signature
  pub libc_as_named : (pointer_width : ℕ) (reading : Reading) (plain : Script) (calls : List ScriptCall) (joined : AreJoinedCalls reading plain calls)
      → ArePerformed pointer_width reading plain calls joined
      → EachItem (CallsLibraryAsNamed (pointer_of pointer_width)) (program_of_calls calls) → EachItem (CallsLibraryAsNamed (pointer_of pointer_width)) (program_of plain)
  pub placement : (pointer_width : ℕ) (reading : Reading) (plain : Script) (calls : List ScriptCall) (joined : AreJoinedCalls reading plain calls)
      → ArePerformed pointer_width reading plain calls joined
      → (signature : SignatureShape) → CallsPlacementPremises calls signature → PlacementPremises plain signature

-- The run of well-typed calls that may be made, from arguments of the signature's types: in each state the values fit their types.
-- So the run is sound if what it claims is true.
pub record CallsNameValues : Type 0 where
  pub fits : (calls : List ScriptCall) (signature : SignatureShape) (hidden : ℕ → Bool) (world : World) → AreCallsAllowed empty_ledger calls
      → WellTyped (ledger_of calls) (program_of_calls calls) signature → AreValues (types_of signature.params) world.arguments
      → (n : ℕ) → ScriptFits (calls_run calls hidden world) (types_of signature.returns) (state_after (script_machine (calls_run calls hidden world)) n)
  pub sound : (calls : List ScriptCall) (signature : SignatureShape) (hidden : ℕ → Bool) (world : World) → AreCallsAllowed empty_ledger calls
      → WellTyped (ledger_of calls) (program_of_calls calls) signature → AreValues (types_of signature.params) world.arguments
      → InEachStep (ClaimsAreTrue (calls_run calls hidden world)) (calls_run calls hidden world) → IsSoundRun (calls_run calls hidden world)

-- A function that means what the plain calls mean means what the script's calls mean, where these may be made and each emission is
-- performed. A use that may not be made, as its variable is declared later, would give a value without a type.
abbrev pub CallsMeanWhatPlainCallsMean : Type 0
CallsMeanWhatPlainCallsMean =
    (reading : Reading) (plain : Script) (calls : List ScriptCall) (joined : AreJoinedCalls reading plain calls)
    (signature : SignatureShape) (width : PointerWidth) (function : FunctionView)
    → ArePerformed (pointer_bits width) reading plain calls joined → AreCallsAllowed empty_ledger calls
    → MeansTheSame plain signature width function → CallsMeanTheSame calls signature width function
