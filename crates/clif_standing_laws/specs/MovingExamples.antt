-- Worked examples of a finished function whose collector moves what is recorded: a parameter of the caller's is assigned to a
-- variable that stack maps are asked for, an outside call is made, and what a use of the variable answers behind the call is
-- returned. A builder may stand for the list of calls, which meets each premise of `CarryingMeansTheSameTracked` and of what that
-- law says, in a world in which the parameter moves; so the function means what the list's program means. Under a collector that
-- forgets the parameter it doesn't, and where the parameter isn't recorded the list isn't carried. Own.
use Rattle.std.specs.Prelude.{◌≡◌, ℕ, Bool, false, List, [], ◌∷◌, Some, length}
use Rattle.std.specs.FinMap as map
use Rattle.clif_types.specs.EntitySet.{has}
use Rattle.clif_types.specs.Signature.{SignatureShape}
use Rattle.clif_types.specs.declared.extfunc.ExtFuncData.{ExtFuncData}
use Rattle.clif_types.specs.declared.call_conv.CallConv.TheVariants.{SystemV}
use Rattle.clif_types.specs.declared.target.PointerWidth.TheVariants.{U64}
use Rattle.clif_instructions.specs.Instruction.{AFunctionRef}
use Rattle.clif_instructions.specs.declared.insert_at.InsertAt.TheVariants.{Back}
use Rattle.clif_instructions.specs.declared.instructions.InstructionData.TheVariants as shape
use Rattle.clif_tables.specs.Entries.{AFunction, ASignature}
use Rattle.clif_ir.specs.Body.{Body}
use Rattle.clif_ir.specs.Changes.{inserted_in, with_block, with_inst}
use Rattle.clif_ir.specs.Consistent.{IsConsistent}
use Rattle.clif_records.specs.Tables.{Yes}
use Rattle.clif_records.specs.Tracking.{Tracked, marked_of, recorded_of, sets}
use Rattle.clif_ssa.specs.Ssa.{SsaState}
use Rattle.clif_meaning.specs.Acceptance.{Accepted, return_, verdict_on}
use Rattle.clif_meaning.specs.Bits.{Bits}
use Rattle.clif_meaning.specs.BranchExamples.{block}
use Rattle.clif_meaning.specs.CallExamples.{i64}
use Rattle.clif_meaning.specs.Examples.{i32}
use Rattle.clif_meaning.specs.FunctionMachine.{FunctionRun, OverSet, function_machine}
use Rattle.clif_meaning.specs.Headline.{IsWorldOf, function_run, script_run}
use Rattle.clif_meaning.specs.Ledger.{is_marked, ledger_after}
use Rattle.clif_meaning.specs.Machine.{Ending, Returned, observed}
use Rattle.clif_meaning.specs.Name.{Name, answer_of}
use Rattle.clif_meaning.specs.Premises.{EachItem, KeepsTrackedApart, PlacementPremises}
use Rattle.clif_meaning.specs.Program.{program_of}
use Rattle.clif_meaning.specs.Request.{AnsweredCall, AppendFunctionParams, Build, CreateBlock, DeclareVar, DefVar, Imported, MakeEntry, NeedStackMap, OfVariable, SealBlock, SwitchToBlock, UseVar, script_of}
use Rattle.clif_meaning.specs.SameMeaning.{Behaviour}
use Rattle.clif_meaning.specs.ScriptMachine.{ScriptRun, script_machine}
use Rattle.clif_meaning.specs.Tracked.{is_tracked}
use Rattle.clif_meaning.specs.View.{view_of}
use Rattle.clif_meaning.specs.World.{World}
use Rattle.clif_simulation.specs.CallCarryingExamples.{call_instruction, callee_name, callee_signature, empty_calling}
use Rattle.clif_simulation.specs.Carries.{Carries, with_params}
use Rattle.clif_simulation.specs.CarryingExamples.{recorded_in}
use Rattle.clif_simulation.specs.Laws.{IsFinished}
use Rattle.clif_simulation.specs.Marked.{MeansTheSameMoving}
use Rattle.clif_builder.specs.Context.{ContextState}
use Rattle.clif_builder.specs.Recorded.{RecordsExactly}
use Rattle.clif_builder.specs.StandsFor.{StandsIn}
use Rattle.clif_builder.specs.declared.context.BlockStatus.TheVariants.{Filled}

-- the function takes an `i64`, and returns one
abbrev pub moved_signature : SignatureShape
moved_signature = record { params = record { value_type = i64 } ∷ []; returns = record { value_type = i64 } ∷ []; call_conv = SystemV }

-- the parameter, and what the use answers
abbrev pub the_parameter : Name
the_parameter = answer_of 1 0

abbrev pub the_use : Name
the_use = answer_of 10 0

-- what is imported for the call
abbrev pub the_callee : ExtFuncData
the_callee = record { name = callee_name; signature = 0; colocated = false; patchable = false }

-- the calls of
--     block0(v0: i64):
--         v1 = call fn0()
--         return v0
-- where v0 is assigned to a marked variable before the call, and a use of that behind the call is returned; the callee and its
-- signature are imported before
abbrev pub moved_calls : List AnsweredCall
moved_calls =
    record { request = CreateBlock; numbers = 0 ∷ [] }
    ∷ record { request = AppendFunctionParams (block 0) (i64 ∷ []); numbers = 0 ∷ [] }
    ∷ record { request = DeclareVar i64; numbers = 0 ∷ [] }
    ∷ record { request = NeedStackMap (OfVariable 0); numbers = [] }
    ∷ record { request = MakeEntry (ASignature callee_signature); numbers = 0 ∷ [] }
    ∷ record { request = MakeEntry (AFunction the_callee); numbers = 0 ∷ [] }
    ∷ record { request = SwitchToBlock (block 0); numbers = [] }
    ∷ record { request = SealBlock (block 0); numbers = [] }
    ∷ record { request = DefVar 0 the_parameter; numbers = [] }
    ∷ record { request = Build (Imported (AFunctionRef 0) ∷ []) call_instruction; numbers = 0 ∷ 1 ∷ [] }
    ∷ record { request = UseVar 0; numbers = 0 ∷ [] }
    ∷ record { request = return_ (the_use ∷ []); numbers = 1 ∷ [] } ∷ []

-- the function: its block with the parameter, the call, and the return
abbrev pub moved_block : Body
moved_block = with_params (with_block (empty_calling moved_signature)) 0 (i64 ∷ [])

abbrev pub moved_called : Body
moved_called = with_inst (inserted_in moved_block 0) 0 Back (shape.Call 0 []) (i32 ∷ []) 0

abbrev pub moved_body : Body
moved_body = with_inst moved_called 0 Back (shape.MultiAry (0 ∷ [])) [] 0

-- the state of the construction in the end, in which this is tracked: the block is sealed, and the variable is on record in it
abbrev pub moved_state_with : Tracked → SsaState
moved_state_with tracked = record {
  records = map.from_entries (recorded_in 0 0 0 ∷ []);
  blocks = record { predecessors = []; sealed = Yes } ∷ [];
  tracking = tracked;
}

-- the variable is marked, and the parameter is recorded
abbrev pub moved_state : SsaState
moved_state = moved_state_with (sets (0 ∷ []) (0 ∷ []))

-- the builder's context then: the block has its terminator
abbrev pub moved_context : ContextState
moved_context = record { ssa = moved_state; status = Filled ∷ []; variables = i64 ∷ []; touched = 0 ∷ [] }

-- the values that are recorded
abbrev pub recorded_values : ℕ → Bool
recorded_values value = has (recorded_of moved_state.tracking) value

-- what the script shows with no address hidden, and what the function shows under a collector over these values
abbrev pub shown_by_script : World → Behaviour
shown_by_script world =
    let run : ScriptRun = script_run (script_of moved_calls) (view_of moved_body) world in
    observed (script_machine (record run { hidden = λ address. false }))

abbrev pub shown_by_function : World → (ℕ → Bool) → Behaviour
shown_by_function world members =
    let run : FunctionRun = function_run (script_of moved_calls) (view_of moved_body) world (OverSet members) in
    observed (function_machine (record run { hidden = λ address. false }))

-- the bits that a run returned
abbrev pub returned_bits : Ending → List Bits
returned_bits (Returned results memory) = results
returned_bits _ = []

-- In a world that passes 64, and that adds 16 to what moves, both runs return 80 behind an outside call, since the parameter moves
-- there; under a collector that forgets the parameter the function returns 64.
pub record MovesInBoth (world : World) : Type 0 where
  pub by_script : returned_bits (shown_by_script world 4).ending ≡ 80 ∷ []
  pub by_function : returned_bits (shown_by_function world recorded_values 2).ending ≡ 80 ∷ []
  pub one_call : length (shown_by_script world 4).events ≡ 1
  pub forgotten : returned_bits (shown_by_function world (λ value. false) 2).ending ≡ 64 ∷ []

pub record MovingExamples : Type 0 where
  -- the calls are accepted, and so is `finalize` behind them
  pub accepted : verdict_on (script_of moved_calls) ≡ Accepted
  -- the function is consistent, carries the calls, and is finished; and the parts of a builder stand for the calls
  pub consistent : IsConsistent moved_body
  pub carried : Carries moved_calls moved_body moved_state
  pub finished : IsFinished moved_calls moved_body moved_state
  pub stands : StandsIn moved_signature moved_calls moved_body moved_context (Some 0)
  -- the marks are those of the calls; the calls meet the premises on branches, types and names, and keep what is tracked apart
  pub marks : (x : ℕ) → is_marked (ledger_after (script_of moved_calls)) x ≡ has (marked_of moved_state.tracking) x
  pub premises : PlacementPremises (script_of moved_calls) moved_signature
  pub apart : EachItem (KeepsTrackedApart (ledger_after (script_of moved_calls)) (is_tracked (script_of moved_calls)))
      (program_of (script_of moved_calls))
  -- there is a world in which the function can run, and in which the parameter moves
  pub a_world : (world : World) × IsWorldOf moved_signature (view_of moved_body) U64 world × MovesInBoth world
  -- so the function means what the calls' program means, under a collector over what is recorded
  pub means_the_same : MeansTheSameMoving (script_of moved_calls) moved_signature U64 (view_of moved_body) recorded_values
  -- under a collector over nothing it doesn't
  pub forgets : MeansTheSameMoving (script_of moved_calls) moved_signature U64 (view_of moved_body) (λ value. false) → ⊥
  -- and where the parameter isn't recorded, the calls aren't carried
  pub unrecorded : Carries moved_calls moved_body (moved_state_with (sets (0 ∷ []) [])) → ⊥
  -- exactly the parameter is recorded: no set is right without it, and none with what the call returned
  pub exactly : RecordsExactly moved_calls moved_body.values moved_state
  pub no_less : RecordsExactly moved_calls moved_body.values (moved_state_with (sets (0 ∷ []) [])) → ⊥
  pub no_more : RecordsExactly moved_calls moved_body.values (moved_state_with (sets (0 ∷ []) (0 ∷ 1 ∷ []))) → ⊥
