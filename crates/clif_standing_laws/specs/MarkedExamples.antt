-- Worked examples of the reading under marks: the row of `MovingExamples` up to the use behind its outside call, with no instruction
-- that ends the block yet. The parameter is assigned to a marked variable, so it moves at the call, and it is recorded. The function so
-- far reads right under a collector over what is recorded; where the parameter isn't recorded it doesn't. Own.
use Rattle.std.specs.Prelude.{◌≡◌, List, [], ◌∷◌}
use Rattle.clif_types.specs.declared.target.PointerWidth.TheVariants.{U64}
use Rattle.clif_instructions.specs.Instruction.{AFunctionRef}
use Rattle.clif_tables.specs.Entries.{AFunction, ASignature}
use Rattle.clif_records.specs.Tracking.{sets}
use Rattle.clif_ssa.specs.Ssa.{SsaState}
use Rattle.clif_meaning.specs.Bits.{Bits}
use Rattle.clif_meaning.specs.BranchExamples.{block}
use Rattle.clif_meaning.specs.CallExamples.{i64}
use Rattle.clif_meaning.specs.FunctionMachine.{Collector}
use Rattle.clif_meaning.specs.Headline.{IsWorldOf}
use Rattle.clif_meaning.specs.Machine.{Machine, Observation, state_after}
use Rattle.clif_meaning.specs.Request.{AnsweredCall, AppendFunctionParams, Build, CreateBlock, DeclareVar, DefVar, Imported, MakeEntry, NeedStackMap, OfVariable, SealBlock, SwitchToBlock, UseVar, script_of}
use Rattle.clif_meaning.specs.Tracked.{is_tracked}
use Rattle.clif_meaning.specs.View.{view_of}
use Rattle.clif_meaning.specs.World.{World}
use Rattle.clif_simulation.specs.CallCarryingExamples.{call_instruction, callee_signature}
use Rattle.clif_simulation.specs.Carries.{Carries}
use Rattle.clif_simulation.specs.Interrupted.{FunctionStanding, ScriptStanding, Unknowns, interrupted_function, interrupted_script}
use Rattle.clif_simulation.specs.Reading.{MovesAlike, PremisesSoFar, function_run_so_far, may_grow, script_run_so_far}
use Rattle.clif_standing_laws.specs.Marked.{KeepsApart, ReadsRightRecorded, over_recorded}
use Rattle.clif_standing_laws.specs.MovingExamples.{moved_called, moved_signature, moved_state, moved_state_with, the_callee, the_parameter, the_use}

-- the calls of
--     block0(v0: i64):
--         v1 = call fn0()
-- where v0 is assigned to a marked variable before the call, and the variable is used behind it
abbrev pub unfinished_calls : List AnsweredCall
unfinished_calls =
    record { request = CreateBlock; numbers = 0 ∷ [] }
    ∷ record { request = AppendFunctionParams (block 0) (i64 ∷ []); numbers = 0 ∷ [] }
    ∷ record { request = DeclareVar i64; numbers = 0 ∷ [] }
    ∷ record { request = NeedStackMap (OfVariable 0); numbers = [] }
    ∷ record { request = MakeEntry (ASignature callee_signature); numbers = 0 ∷ [] }
    ∷ record { request = MakeEntry (AFunction the_callee); numbers = 0 ∷ [] }
    ∷ record { request = SwitchToBlock (block 0); numbers = [] }
    ∷ record { request = SealBlock (block 0); numbers = [] }
    ∷ record { request = DefVar 0 the_parameter; numbers = [] }
    ∷ record { request = Build (Imported (AFunctionRef 0) ∷ []) call_instruction; numbers = 0 ∷ 1 ∷ [] }
    ∷ record { request = UseVar 0; numbers = 0 ∷ [] } ∷ []

-- no block is unsealed, so nothing is unknown
abbrev pub nothing_unknown : Unknowns
nothing_unknown entries variable = 0

-- the runs from the entry
abbrev pub unfinished_script : World → Machine ScriptStanding Observation
unfinished_script world =
    interrupted_script unfinished_calls moved_state nothing_unknown 0 (block 0)
    (script_run_so_far unfinished_calls moved_called world (is_tracked (script_of unfinished_calls)))

abbrev pub unfinished_function : SsaState → World → Machine FunctionStanding Observation
unfinished_function s world =
    interrupted_function s nothing_unknown 0 (function_run_so_far unfinished_calls moved_called world (over_recorded s))

-- the same state, but for that nothing is recorded
abbrev pub forgotten_state : SsaState
forgotten_state = moved_state_with (sets (0 ∷ []) [])

-- at the block's end so far: what the use's answer has, what the variable holds, and what the value has that is on record for it
abbrev pub name_at_end : World → Bits
name_at_end world = (state_after (unfinished_script world) 3).state.names the_use

abbrev pub variable_at_end : World → Bits
variable_at_end world = (state_after (unfinished_script world) 3).state.variables 0

abbrev pub value_at_end : SsaState → World → Bits
value_at_end s world = (state_after (unfinished_function s world) 1).state.values 0

-- In a world that passes 64, and that adds 16 to what moves, all of them have 80; where the parameter isn't recorded the value doesn't.
pub record MovesSoFar (world : World) : Type 0 where
  pub name_moves : name_at_end world ≡ 80
  pub variable_moves : variable_at_end world ≡ 80
  pub value_moves : value_at_end moved_state world ≡ 80
  pub forgotten : value_at_end forgotten_state world ≡ 64

pub record MarkedExamples : Type 0 where
  -- the function so far carries the calls, which meet the premises and keep what is tracked apart
  pub carried : Carries unfinished_calls moved_called moved_state
  pub premises : PremisesSoFar (may_grow unfinished_calls) unfinished_calls moved_signature
  pub apart : KeepsApart unfinished_calls
  -- there is a world in which it can run, and in which the parameter moves
  pub a_world : (world : World) × IsWorldOf moved_signature (view_of moved_called) U64 world × MovesSoFar world
  -- it reads right under a collector over what is recorded
  pub reads_right : ReadsRightRecorded (may_grow unfinished_calls) unfinished_calls moved_signature moved_called moved_state
  -- where the parameter isn't recorded it doesn't
  pub forgets : ReadsRightRecorded (may_grow unfinished_calls) unfinished_calls moved_signature moved_called forgotten_state → ⊥
  -- the law on unmarked variables and names apart from them says nothing of these calls, whatever the collector is over
  pub not_alike : (collector : Collector) → MovesAlike unfinished_calls (is_tracked (script_of unfinished_calls)) collector → ⊥
