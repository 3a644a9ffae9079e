-- A worked example of the reading along edges that may still come, one of them an outside call's: a marked variable is used in a block
-- that only a coming edge reaches, and a parameter waits for it there; the use's name is named in a block behind another coming edge,
-- along which it moves. A set of edges that leads around the use is none that may come. Own.
use Rattle.std.specs.Prelude.{◌≡◌, ℕ, ◌==◌, if◌then◌else◌, List, [], ◌∷◌, None, Some}
use Rattle.std.specs.FinMap as map
use Rattle.clif_types.specs.declared.extname.UserFuncName.TheVariants.{Testcase}
use Rattle.clif_types.specs.declared.target.PointerWidth.TheVariants.{U64}
use Rattle.clif_instructions.specs.declared.insert_at.InsertAt.TheVariants.{Back}
use Rattle.clif_instructions.specs.declared.instructions.InstructionData.TheVariants as shape
use Rattle.clif_opcodes.specs.declared.opcodes.BinaryOpcode.TheVariants.{Iadd}
use Rattle.clif_ir.specs.Body.{Body, empty_body}
use Rattle.clif_ir.specs.Changes.{inserted_in, with_block, with_inst, with_param}
use Rattle.clif_records.specs.Tables.{No}
use Rattle.clif_records.specs.Tracking.{Tracked, sets}
use Rattle.clif_ssa.specs.Ssa.{SsaState}
use Rattle.clif_meaning.specs.Bits.{Bits}
use Rattle.clif_meaning.specs.BranchExamples.{block}
use Rattle.clif_meaning.specs.CallExamples.{i64}
use Rattle.clif_meaning.specs.Event.{plain_call}
use Rattle.clif_meaning.specs.Examples.{first_signature}
use Rattle.clif_meaning.specs.Headline.{IsWorldOf}
use Rattle.clif_meaning.specs.Ledger.{ledger_after}
use Rattle.clif_meaning.specs.Machine.{Machine, Observation, state_after}
use Rattle.clif_meaning.specs.Name.{Name, answer_of, same_name}
use Rattle.clif_meaning.specs.Request.{AnsweredCall, Build, CreateBlock, DeclareVar, EnsureInsertedBlock, NeedStackMap, OfVariable, SwitchToBlock, UseVar, script_of}
use Rattle.clif_meaning.specs.Tracked.{is_tracked}
use Rattle.clif_meaning.specs.View.{view_of}
use Rattle.clif_meaning.specs.WellPlaced.{IsWellPlaced}
use Rattle.clif_meaning.specs.World.{World}
use Rattle.clif_simulation.specs.Carries.{Carries}
use Rattle.clif_simulation.specs.CarryingExamples.{recorded_in}
use Rattle.clif_simulation.specs.Coming.{Arrivals, Coming, MayCome, coming_function, coming_script, function_coming}
use Rattle.clif_simulation.specs.Interrupted.{FunctionStanding, ScriptStanding, Unknowns}
use Rattle.clif_simulation.specs.Reading.{WellTypedSoFar, function_run_so_far, may_grow, script_run_so_far}
use Rattle.clif_simulation.specs.Tables.{program_so_far}
use Rattle.clif_simulation.specs.TrackedExamples.{doubled}
use Rattle.clif_standing_laws.specs.Marked.{KeepsApart, ReadsRightRecordedComing, over_recorded}

-- what the use answers
abbrev pub used_name : Name
used_name = answer_of 8 0

-- the calls of
--     block0:
--     block1(v0: i64):
--     block2:
--         v1 = iadd v0, v0
-- where v0 is what a use of a marked variable in block1 answers; no block is sealed, and none has its terminator
abbrev pub waiting_calls : List AnsweredCall
waiting_calls =
    record { request = CreateBlock; numbers = 0 ∷ [] }
    ∷ record { request = CreateBlock; numbers = 1 ∷ [] }
    ∷ record { request = CreateBlock; numbers = 2 ∷ [] }
    ∷ record { request = DeclareVar i64; numbers = 0 ∷ [] }
    ∷ record { request = NeedStackMap (OfVariable 0); numbers = [] }
    ∷ record { request = SwitchToBlock (block 0); numbers = [] }
    ∷ record { request = EnsureInsertedBlock; numbers = [] }
    ∷ record { request = SwitchToBlock (block 1); numbers = [] }
    ∷ record { request = UseVar 0; numbers = 0 ∷ [] }
    ∷ record { request = SwitchToBlock (block 2); numbers = [] }
    ∷ record { request = Build [] (doubled used_name); numbers = 0 ∷ 1 ∷ [] } ∷ []

-- the function so far
abbrev pub three_blocks : Body
three_blocks = with_block (with_block (with_block (empty_body (Testcase (51 ∷ [])) first_signature)))

abbrev pub used_body : Body
used_body = with_param (inserted_in (inserted_in three_blocks 0) 1) 1 i64

abbrev pub waiting_body : Body
waiting_body = with_inst (inserted_in used_body 2) 2 Back (shape.Binary Iadd (0 ∷ 0 ∷ [])) (i64 ∷ []) 0

-- the state of the construction, in which this is tracked: the parameter waits in block1, and is on record there
abbrev pub waiting_state_with : Tracked → SsaState
waiting_state_with tracked = record {
  records = map.from_entries (recorded_in 1 0 0 ∷ []);
  blocks =
      record { predecessors = []; sealed = No [] }
      ∷ record { predecessors = []; sealed = No (record { variable = 0; param = 0 } ∷ []) } ∷ [];
  tracking = tracked;
}

-- the variable is marked, and the parameter is recorded
abbrev pub waiting_state : SsaState
waiting_state = waiting_state_with (sets (0 ∷ []) (0 ∷ []))

-- from block0 an edge may still come to block1, and from there one to block2
abbrev pub through_use : Coming
through_use from =
    if same_name from (block 0) then block 1 ∷ [] else (if same_name from (block 1) then block 2 ∷ [] else [])

-- one from block0 to block2 would lead around the use
abbrev pub around_use : Coming
around_use from = if same_name from (block 0) then block 2 ∷ [] else []

-- A run goes along the first one by a branch, and along the second one by an outside call, with 9 in each byte of memory.
abbrev pub goes_through : Arrivals
goes_through entries =
    if entries == 1
    then Some (record { block = block 1; memory = λ address. 9; events = []; parameters = []; call = None })
    else Some (record { block = block 2; memory = λ address. 9; events = []; parameters = []; call = Some (plain_call first_signature) })

-- variables hold 64 wherever control comes from
abbrev pub all_64 : Unknowns
all_64 entries variable = 64

abbrev pub through_script : World → Machine ScriptStanding Observation
through_script world =
    coming_script through_use goes_through waiting_calls waiting_state all_64 0 (block 0)
    (script_run_so_far waiting_calls waiting_body world (is_tracked (script_of waiting_calls)))

abbrev pub through_function : SsaState → World → Machine FunctionStanding Observation
through_function s world =
    coming_function goes_through waiting_calls s all_64 0 (function_run_so_far waiting_calls waiting_body world (over_recorded s))

-- what the use's name and its value have behind the use, and at the front of block2
abbrev pub name_after : World → ℕ → Bits
name_after world steps = (state_after (through_script world) steps).state.names used_name

abbrev pub value_after : SsaState → World → ℕ → Bits
value_after s world steps = (state_after (through_function s world) steps).state.values 0

-- In a world that adds 16 to what moves, both have 64 and then 80; where the parameter isn't recorded the value keeps 64.
pub record MovesAlong (world : World) : Type 0 where
  pub used : name_after world 2 ≡ 64
  pub waits : value_after waiting_state world 1 ≡ 64
  pub name_moves : name_after world 3 ≡ 80
  pub value_moves : value_after waiting_state world 2 ≡ 80
  pub forgotten : value_after (waiting_state_with (sets (0 ∷ []) [])) world 2 ≡ 64

pub record MarkedComingExamples : Type 0 where
  -- the function so far carries the calls; they are well typed so far, and keep what is tracked apart
  pub carried : Carries waiting_calls waiting_body waiting_state
  pub typed : WellTypedSoFar (may_grow waiting_calls) (ledger_after (script_of waiting_calls)) (program_so_far waiting_calls) first_signature
  pub apart : KeepsApart waiting_calls
  -- the edges through the use may come, those around it may not
  pub may_come : MayCome through_use waiting_calls waiting_state
  pub may_not : MayCome around_use waiting_calls waiting_state → ⊥
  -- there is a world in which the function can run, and in which the parameter moves along the second edge
  pub a_world : (world : World) × IsWorldOf first_signature (view_of waiting_body) U64 world × MovesAlong world
  -- the function reads right along these edges, under a collector over what is recorded
  pub reads_right : ReadsRightRecordedComing (may_grow waiting_calls) waiting_calls first_signature waiting_body waiting_state
  -- and its values are defined before they are named; along the edges around the use they aren't
  pub placed : IsWellPlaced (function_coming through_use waiting_calls waiting_body)
  pub misplaced : IsWellPlaced (function_coming around_use waiting_calls waiting_body) → ⊥
