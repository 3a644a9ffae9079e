-- Worked examples of what is recorded for stack maps: a parameter of the caller's, by whose name they are asked for, or which is
-- assigned to a marked variable. Own.
use Rattle.std.specs.Prelude.{List, [], ◌∷◌}
use Rattle.std.specs.FinMap as map
use Rattle.clif_records.specs.Tracking.{Tracked, nothing_tracked, sets}
use Rattle.clif_ssa.specs.Ssa.{SsaState, no_state}
use Rattle.clif_meaning.specs.Name.{answer_of}
use Rattle.clif_meaning.specs.Request.{AnsweredCall, AppendFunctionParams, CreateBlock, DeclareVar, DefVar, NeedStackMap, OfValue, OfVariable, SwitchToBlock}
use Rattle.clif_meaning.specs.Examples.{i32}
use Rattle.clif_meaning.specs.BranchExamples.{block}
use Rattle.clif_simulation.specs.Carries.{Carries}
use Rattle.clif_simulation.specs.CarryingExamples.{recorded_in}
use Rattle.clif_simulation.specs.ParameterCarryingExamples.{parameter_body, parameter_calls}

-- a block, a parameter of it, and stack maps are asked for the parameter
abbrev pub asking_calls : List AnsweredCall
asking_calls =
    record { request = CreateBlock; numbers = 0 ∷ [] }
    ∷ record { request = AppendFunctionParams (block 0) (i32 ∷ []); numbers = 0 ∷ [] }
    ∷ record { request = NeedStackMap (OfValue (answer_of 1 0)); numbers = [] } ∷ []

-- or a variable is marked, and the parameter is assigned to it
abbrev pub assigning_calls : List AnsweredCall
assigning_calls =
    record { request = CreateBlock; numbers = 0 ∷ [] }
    ∷ record { request = AppendFunctionParams (block 0) (i32 ∷ []); numbers = 0 ∷ [] }
    ∷ record { request = DeclareVar i32; numbers = 0 ∷ [] } ∷ record { request = NeedStackMap (OfVariable 0); numbers = [] }
    ∷ record { request = SwitchToBlock (block 0); numbers = [] } ∷ record { request = DefVar 0 (answer_of 1 0); numbers = [] } ∷ []

-- a state in which this is tracked, and one that has the variable on record, too
abbrev pub tracking : Tracked → SsaState
tracking tracked = record no_state { tracking = tracked }

abbrev pub assigned_state : Tracked → SsaState
assigned_state tracked = record { records = map.from_entries (recorded_in 0 0 0 ∷ []); blocks = []; tracking = tracked }

pub record RecordingExamples : Type 0 where
  -- the parameter is recorded
  pub asked : Carries asking_calls (parameter_body i32) (tracking (sets [] (0 ∷ [])))
  pub assigned : Carries assigning_calls (parameter_body i32) (assigned_state (sets (0 ∷ []) (0 ∷ [])))
  -- where it isn't, the calls aren't carried
  pub forgotten : Carries asking_calls (parameter_body i32) (tracking nothing_tracked) → ⊥
  pub forgotten_assigned : Carries assigning_calls (parameter_body i32) (assigned_state (sets (0 ∷ []) [])) → ⊥
  -- nor are they where it is, and no stack maps were asked for
  pub unasked : Carries parameter_calls (parameter_body i32) (tracking (sets [] (0 ∷ []))) → ⊥
