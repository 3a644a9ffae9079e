-- What comes of a list of calls: that plain calls made a function of it, and the verdict on it. Own.
use Rattle.std.specs.Prelude.{◌≡◌, ◌≢◌, ◌⊎◌, ℕ, List, [], ◌∷◌, ◌++◌, length, take, drop, slice_get, Option, Some, None, true, Result, Ok, Err}
use Rattle.std.specs.List.{AllByRecursion}
use Rattle.clif_ir.specs.Body.{Body}
use Rattle.clif_meaning.specs.Instruction.{Bytes, Operation}
use Rattle.clif_meaning.specs.Name.{Name}
use Rattle.clif_meaning.specs.Request.{DefVar, Finalize, NeedStackMap, OfValue, Request, Script, AnsweredCall, script_of}
use Rattle.clif_meaning.specs.Ledger.{empty_ledger, is_marked}
use Rattle.clif_meaning.specs.View.{view_of}
use Rattle.clif_meaning.specs.WellPlaced.{WellPlaced}
use Rattle.clif_meaning.specs.Acceptance.{Verdict, Accepted, Misuse, Refused}
use Rattle.clif_types.specs.declared.types.«Type».{«Type»}
use Rattle.clif_types.specs.Signature.{SignatureShape}
use Rattle.clif_types.specs.Types.{bits_of}
use Rattle.clif_types.specs.Target.{pointer_type_of}
use Rattle.clif_types.specs.declared.extname.UserFuncName.{UserFuncName}
use Rattle.clif_types.specs.declared.target.TargetFrontendConfig.{TargetFrontendConfig}
use Rattle.clif_types.specs.EntitySet.{has}
use Rattle.clif_nodes.specs.declared.nodes.ValueNode.{ValueNode}
use Rattle.clif_records.specs.Tracking.{marked_of, recorded_of}
use Rattle.clif_ssa.specs.Ssa.{SsaState}
use Rattle.clif_simulation.specs.Tracks.{HasRequest}
use Rattle.clif_safepoints.specs.Contexts.{IsFirstTracked}
use Rattle.clif_builder.specs.Context.{ContextState}
use Rattle.clif_tables.specs.Lists.{no_entries}
use Rattle.clif_regions.specs.Asking.{Asks, CarriesAnswersOf}
use Rattle.clif_builder.specs.Ending.{BecomesSpilled}
use Rattle.clif_builder.specs.Recorded.{RecordsExactly}
use Rattle.clif_builder.specs.StandsFor.{LeavesNoParameter, StandsIn}
use Rattle.clif_calls.specs.declared.call.Call.{Call}
use Rattle.clif_expansion.specs.CallsHeadline.{CallsPlacementPremises}
use Rattle.clif_expansion.specs.CallsVerdict.{AreCallsTaken, verdict_on_call_attempts, verdict_on_calls_from}
use Rattle.clif_expansion.specs.CallsVerdict as verdict
use Rattle.clif_expansion.specs.JoinedCalls.{AreJoinedCalls}
use Rattle.clif_expansion.specs.PerformedCalls.{ArePerformed}
use Rattle.clif_expansion.specs.Reading.{IsReadAs, Reading}
use Rattle.clif_expansion.specs.ScriptCall.{Ask, Emit, ScriptCall, call_allowed, ledger_of}
use Rattle.clif_replay.specs.declared.script.ReplayError.{ReplayError}
use Rattle.clif_replay.specs.declared.script.ReplayError.TheVariants as replay
use Rattle.clif_replay.specs.Entries.{numbers_in}
use Rattle.clif_replay.specs.Limits.{StopsAtFullTable}
use Rattle.clif_replay.specs.Sums.{LacksConstant, MayFillTable}
use Rattle.clif_replay.specs.Requests.{attempts_from, attempts_of, call_of, calls_of, is_refusable, name_of}

abbrev pub AreBytesOf : (pointer_width : ℕ) → Operation → «Type» → Type 0
AreBytesOf pointer_width (Bytes operation) ty = bits_of ty ≡ pointer_width
AreBytesOf pointer_width _ ty = Unit {0}

-- what is emitted is of pointers of this width, if it is a memory helper
abbrev pub IsOfWidth : (pointer_width : ℕ) → ScriptCall → Type 0
IsOfWidth pointer_width (Ask request) = Unit {0}
IsOfWidth pointer_width (Emit imports instruction) = AreBytesOf pointer_width instruction.operation instruction.controlling

-- These are plain calls of a script's calls: their names are read as the script's, and the code of each emission does what the
-- instruction does that is emitted, whatever the width of pointers, if it is that of the memory helpers.
pub record ArePlainCalls (plain : Script) (calls : List ScriptCall) : Type 0 where
  pub reading : Reading
  pub joined : AreJoinedCalls reading plain calls
  pub performed : (pointer_width : ℕ) → AllByRecursion (IsOfWidth pointer_width) calls → ArePerformed pointer_width reading plain calls joined

-- the first calls of a list were made, as many as `place` says, and the verdict on the list is that on the rest
pub record IsReplayed (config : TargetFrontendConfig) (signature : SignatureShape) (calls : List Call) (place : ℕ) (made : List AnsweredCall) : Type 0 where
  pub plain : ArePlainCalls (script_of made) (calls_of config signature (take place calls))
  pub taken : AreCallsTaken empty_ledger (calls_of config signature (take place calls))
  pub rest : verdict_on_call_attempts (attempts_of config signature calls)
      ≡ verdict_on_calls_from place (ledger_of (calls_of config signature (take place calls)))
      (attempts_from config signature (ledger_of (calls_of config signature (take place calls))) (drop place calls) ++ verdict.made (Ask Finalize) ∷ [])

-- the calls that may be refused: `finalize`, behind the last one, switches, and those that are only tried
abbrev pub MayBeRefused : List Call → ℕ → Type 0
MayBeRefused calls place = (place ≡ length calls) ⊎ ((call : Call) × (slice_get calls place ≡ Some call) × (is_refusable call ≡ true))

-- the verdict that a replay's answer tells; refused memory and a full table tell none
abbrev pub verdict_of : Result Body ReplayError → Option Verdict
verdict_of (Ok function) = Some Accepted
verdict_of (Err (replay.Misuse place)) = Some (Misuse place)
verdict_of (Err (replay.Refused place)) = Some (Refused place)
verdict_of (Err replay.Memory) = None
verdict_of (Err replay.Full) = None

-- the script's calls ask for this
abbrev pub HasCall : List ScriptCall → Request → Type 0
HasCall calls request = (place : ℕ) × (slice_get calls place ≡ Some (Ask request))

-- The plain calls ask for this of a name exactly where the script's calls ask for it of a name that it is read as.
pub record AskAlike (reading : Reading) (plain : Script) (calls : List ScriptCall) (asking : Name → Request) : Type 0 where
  pub plain_asks : (x : Name) → HasRequest plain (asking x)
      → (name : Name) × IsReadAs reading x name × HasCall calls (asking name)
  pub script_asks : (name : Name) → HasCall calls (asking name)
      → (x : Name) × IsReadAs reading x name × HasRequest plain (asking x)

-- What is recorded is exactly what a script's calls ask for: what answers the names that they declare, what they assign to marked
-- variables, and the parameters that were made for marked variables.
pub record RecordsAsAsked (calls : List ScriptCall) (reading : Reading) (made : List AnsweredCall) (values : List ValueNode) (s : SsaState) : Type 0 where
  pub exactly : RecordsExactly made values s
  pub declared : AskAlike reading (script_of made) calls (λ name. NeedStackMap (OfValue name))
  pub assigned : (variable : ℕ) → AskAlike reading (script_of made) calls (DefVar variable)
  pub marked : (variable : ℕ) → is_marked (ledger_of calls) variable ≡ has (marked_of s.tracking) variable

-- What the calls build, as `finalize` finds it: a function, and with the context the values that its stack maps need. A builder of it,
-- with this context and current block, stands for plain calls of these calls, and for no others, on a function of the caller's
-- signature.
pub record Found (config : TargetFrontendConfig) (calls : List Call) (declared : SignatureShape) : Type 0 where
  pub function : Body
  pub made : List AnsweredCall
  pub plain : ArePlainCalls (script_of made) (calls_of config declared calls)
  pub context : ContextState
  pub position : Option ℕ
  pub stands : StandsIn declared made function context position
  pub recorded : RecordsAsAsked (calls_of config declared calls) plain.reading made function.values context.ssa

-- the values that its stack maps need
abbrev pub recorded_in : {config : TargetFrontendConfig} {calls : List Call} {declared : SignatureShape} → Found config calls declared → List ℕ
recorded_in found = recorded_of found.context.ssa.tracking

-- A function is what becomes of one that the calls build, once the recorded values that live across calls are spilled.
pub record IsBuiltBy (config : TargetFrontendConfig) (calls : List Call) (declared : SignatureShape) (f : Body) : Type 0 where
  pub found : Found config calls declared
  -- no variable's parameter is left in a block to which at most one branch leads
  pub parameters : LeavesNoParameter found.made found.function found.context.ssa
  -- values are given before they are used
  pub well_placed : CallsPlacementPremises (calls_of config declared calls) declared → WellPlaced (view_of found.function)
  -- no try call that is reached has a recorded value as its context
  pub contexts : IsFirstTracked found.function (recorded_in found) None
  pub spilled : BecomesSpilled found.function (recorded_in found) (pointer_type_of config.pointer_width) f

-- What is built, where a callback may be asked for the alias regions of the accesses that came to the function: these name what it
-- answered, and nothing else has changed. Instructions that came to the function as it was found have the numbers behind its own.
pub record IsBuiltAsking {C : Type 0} (config : TargetFrontendConfig) (calls : List Call) (declared : SignatureShape) (callback : Option C) (asks_of : C → Asks) (f : Body) : Type 0 where
  pub between : Body
  pub built : IsBuiltBy config calls declared between
  -- the chain of sets begins at the empty one
  pub begins : between.tables.alias_regions ≡ no_entries.alias_regions
  pub regions : CarriesAnswersOf callback asks_of (length built.found.function.insts) between f

-- A recorded value as a context ends a list of calls that are accepted: in the function that they build a try call that is reached
-- has one.
pub record IsStoppedByContext (config : TargetFrontendConfig) (calls : List Call) (declared : SignatureShape) : Type 0 where
  pub accepted : verdict_on_call_attempts (attempts_of config declared calls) ≡ Accepted
  pub found : Found config calls declared
  pub inst : ℕ
  pub tracked : IsFirstTracked found.function (recorded_in found) (Some inst)

-- What an answer tells of the verdict on the calls: it is that, or `finalize` was refused for a context.
abbrev pub TellsVerdict : TargetFrontendConfig → List Call → SignatureShape → Result Body ReplayError → Type 0
TellsVerdict config calls declared answer =
    (verdict_of answer ≡ Some (verdict_on_call_attempts (attempts_of config declared calls)))
    ⊎ ((answer ≡ Err (replay.Refused (length calls))) × IsStoppedByContext config calls declared)

-- A full table ends a list of calls: the calls before some place were made, and a builder of a function of this name and
-- signature, with this context and current block, stands for them; and the call at that place is allowed then, and meets a full
-- table, which the calls up to it may fill, or lacks a constant.
pub record IsStoppedByTable (config : TargetFrontendConfig) (calls : List Call) (name : UserFuncName) (declared : SignatureShape) : Type 0 where
  pub place : ℕ
  pub call : Call
  pub here : slice_get calls place ≡ Some call
  pub made : List AnsweredCall
  pub replayed : IsReplayed config declared calls place made
  pub function : Body
  pub context : ContextState
  pub position : Option ℕ
  pub stands : StandsIn declared made function context position
  pub named : function.name ≡ name
  pub allowed :
      let ledger = ledger_of (calls_of config declared (take place calls)) in
      call_allowed ledger (call_of config declared ledger call) ≡ true
  pub meets : StopsAtFullTable config (numbers_in name_of (ledger_of (calls_of config declared (take place calls)))) call function context position
  pub sums :
      let before = calls_of config declared (take place calls) in
      MayFillTable config before (call_of config declared (ledger_of before) call) ⊎ LacksConstant call function context

-- A full table ends the spills of recorded values, of which there are some.
pub record IsStoppedInSpilling (config : TargetFrontendConfig) (calls : List Call) (declared : SignatureShape) : Type 0 where
  pub found : Found config calls declared
  pub some : recorded_in found ≢ []
