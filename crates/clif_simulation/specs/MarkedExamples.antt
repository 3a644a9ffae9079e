-- Worked examples of marks that agree: the row `both_arms`, with its variable marked. What is assigned to the variable and what
-- answers its uses is tracked, and the collector is over their values and the parameter of the loop's block, which is passed them.
-- Where the parameter isn't among them, or a constant is too, or a use's answer isn't tracked, or the variable isn't marked, they
-- don't agree. And a block with a parameter that is assigned to a marked variable, which is used behind an outside call: both
-- sides move it. Own.
use Rattle.std.specs.Prelude.{◌≡◌, ℕ, ◌==◌, Bool, false, List, [], ◌∷◌}
use Rattle.std.specs.List.{list_any}
use Rattle.clif_instructions.specs.Members.{stands_in}
use Rattle.clif_meaning.specs.Bits.{Bits}
use Rattle.clif_meaning.specs.BranchExamples.{block, both_arms_signature}
use Rattle.clif_meaning.specs.CallExamples.{i64}
use Rattle.clif_meaning.specs.FunctionMachine.{FunctionRun, OverSet, function_machine}
use Rattle.clif_meaning.specs.Machine.{state_after}
use Rattle.clif_meaning.specs.Name.{Name, answer_of, same_name}
use Rattle.clif_meaning.specs.Premises.{PlacementPremises}
use Rattle.clif_meaning.specs.Request.{AnsweredCall, AppendFunctionParams, Build, CreateBlock, DeclareVar, DefVar, SwitchToBlock, UseVar, script_of}
use Rattle.clif_meaning.specs.ScriptMachine.{ScriptRun, script_machine}
use Rattle.clif_meaning.specs.World.{World}
use Rattle.clif_simulation.specs.CallCarryingExamples.{call_instruction}
use Rattle.clif_simulation.specs.Carries.{Carries}
use Rattle.clif_simulation.specs.CarryingExamples.{loop_body, loop_calls, loop_state}
use Rattle.clif_simulation.specs.Marked.{NamesAgree, ValuesAgree, collected_run, marked_script_run}
use Rattle.clif_simulation.specs.TrackedExamples.{called_body, first_parameter}

-- the first variable is marked
abbrev pub marks_first : ℕ → Bool
marks_first variable = variable == 0

-- these names are tracked
abbrev pub tracks : List Name → Name → Bool
tracks names name = list_any (same_name name) names

-- these values are members
abbrev pub has_members : List ℕ → ℕ → Bool
has_members members value = stands_in value members

-- what the row assigns to its variable, and what answers the uses behind the first one
abbrev pub other_tracked : List Name
other_tracked = answer_of 7 1 ∷ answer_of 17 1 ∷ answer_of 15 0 ∷ answer_of 23 0 ∷ []

-- all of them
abbrev pub loop_tracked : Name → Bool
loop_tracked = tracks (answer_of 11 0 ∷ other_tracked)

-- the values agree with these members, in the row
abbrev pub LoopValuesAgree : Carries loop_calls loop_body loop_state → List ℕ → Type 0
LoopValuesAgree carried members = ValuesAgree loop_calls carried.own loop_body loop_state loop_tracked (has_members members)

-- the calls of
--     block0(v0: i64):
--         v1 = call fn0()
-- where v0 is assigned to a variable before the call, which is used behind it
abbrev pub marked_calls : List AnsweredCall
marked_calls =
    record { request = CreateBlock; numbers = 0 ∷ [] }
    ∷ record { request = AppendFunctionParams (block 0) (i64 ∷ []); numbers = 0 ∷ [] }
    ∷ record { request = DeclareVar i64; numbers = 0 ∷ [] }
    ∷ record { request = SwitchToBlock (block 0); numbers = [] }
    ∷ record { request = DefVar 0 first_parameter; numbers = [] }
    ∷ record { request = Build [] call_instruction; numbers = 0 ∷ 1 ∷ [] }
    ∷ record { request = UseVar 0; numbers = 0 ∷ [] } ∷ []

-- what the use's answer holds behind the call, under these marks, and the parameter's value, under a collector over these
abbrev pub use_behind : World → (ℕ → Bool) → List Name → Bits
use_behind world marked tracked =
    let run : ScriptRun = marked_script_run marked_calls called_body world marked (tracks tracked) (λ address. false) in
    (state_after (script_machine run) 3).names (answer_of 6 0)

abbrev pub parameter_behind : World → List ℕ → Bits
parameter_behind world members =
    let run : FunctionRun = collected_run marked_calls called_body world (OverSet (has_members members)) (λ address. false) in
    (state_after (function_machine run) 1).values 0

-- In a world that passes 64, and that adds 16 to what moves, both move; neither does where it isn't marked, or no member.
pub record MarkedMove (world : World) : Type 0 where
  pub by_script : use_behind world marks_first (first_parameter ∷ answer_of 6 0 ∷ []) ≡ 80
  pub by_function : parameter_behind world (0 ∷ []) ≡ 80
  pub unmarked : use_behind world (λ variable. false) (first_parameter ∷ answer_of 6 0 ∷ []) ≡ 64
  pub forgotten : parameter_behind world [] ≡ 64

pub record MarkedExamples : Type 0 where
  -- the row is carried, and its names and values agree: with the constant, the parameter and the sum as members
  pub carried : Carries loop_calls loop_body loop_state
  pub premises : PlacementPremises (script_of loop_calls) both_arms_signature
  pub names : NamesAgree loop_calls marks_first loop_tracked
  pub values : LoopValuesAgree carried (0 ∷ 1 ∷ 3 ∷ [])
  -- without the parameter, or with the constant that is added, values don't agree
  pub forgets : LoopValuesAgree carried (0 ∷ 3 ∷ []) → ⊥
  pub moves_more : LoopValuesAgree carried (0 ∷ 1 ∷ 2 ∷ 3 ∷ []) → ⊥
  -- where the first use's answer isn't tracked, or the variable isn't marked, names don't
  pub untracked : NamesAgree loop_calls marks_first (tracks other_tracked) → ⊥
  pub unmarked : NamesAgree loop_calls (λ variable. false) loop_tracked → ⊥
  -- in a run with an outside call both move
  pub both_move : (world : World) × MarkedMove world
