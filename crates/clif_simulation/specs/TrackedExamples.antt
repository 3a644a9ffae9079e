-- Worked examples of what both runs move at outside calls: a block with a parameter of the caller's, which is tracked and used
-- behind a call. A collector over its value alone moves alike; one that forgets the value, or one over others too, doesn't. Where a
-- use's answer is tracked, or a tracked name is assigned to a variable, no collector does. Own.
use Rattle.std.specs.Prelude.{◌≡◌, ℕ, ◌==◌, Bool, true, false, List, [], ◌∷◌}
use Rattle.clif_types.specs.Signature.{SignatureShape}
use Rattle.clif_instructions.specs.declared.insert_at.InsertAt.TheVariants.{Back}
use Rattle.clif_instructions.specs.declared.instructions.InstructionData.TheVariants as shape
use Rattle.clif_opcodes.specs.declared.opcodes.BinaryOpcode.TheVariants.{Iadd}
use Rattle.clif_ir.specs.Body.{Body}
use Rattle.clif_ir.specs.Changes.{inserted_in, with_block, with_inst}
use Rattle.clif_ssa.specs.Ssa.{no_state}
use Rattle.clif_meaning.specs.Bits.{Bits}
use Rattle.clif_meaning.specs.FunctionMachine.{Collector, OverSet}
use Rattle.clif_meaning.specs.Instruction.{Binary, Compute, Instruction}
use Rattle.clif_meaning.specs.Name.{Name, answer_of, same_name}
use Rattle.clif_meaning.specs.Request.{AnsweredCall, AppendFunctionParams, Build, CreateBlock, DeclareVar, DefVar, SwitchToBlock, UseVar}
use Rattle.clif_meaning.specs.World.{World}
use Rattle.clif_meaning.specs.Machine.{Machine, Observation, state_after}
use Rattle.clif_meaning.specs.Examples.{i32, first_signature}
use Rattle.clif_meaning.specs.BranchExamples.{block}
use Rattle.clif_meaning.specs.CallExamples.{i64}
use Rattle.clif_simulation.specs.CallCarryingExamples.{call_instruction, empty_calling}
use Rattle.clif_simulation.specs.Carries.{Carries, with_params}
use Rattle.clif_simulation.specs.Reading.{MovesAlike, MovesTracked, PremisesSoFar, may_grow, script_run_so_far, function_run_so_far}
use Rattle.clif_simulation.specs.Interrupted.{FunctionStanding, ReadsRight, ScriptStanding, Unknowns, interrupted_script, interrupted_function}

-- the sum of a name with itself
abbrev pub doubled : Name → Instruction Name Name
doubled name = record { operation = Compute (Binary Iadd); controlling = i64; operands = name ∷ name ∷ []; contexts = []; edges = [] }

-- the parameter
abbrev pub first_parameter : Name
first_parameter = answer_of 1 0

-- the calls of
--     block0(v0: i64):
--         v1 = call fn0()
--         v2 = iadd v0, v0
abbrev pub tracked_calls : List AnsweredCall
tracked_calls =
    record { request = CreateBlock; numbers = 0 ∷ [] }
    ∷ record { request = AppendFunctionParams (block 0) (i64 ∷ []); numbers = 0 ∷ [] }
    ∷ record { request = SwitchToBlock (block 0); numbers = [] }
    ∷ record { request = Build [] call_instruction; numbers = 0 ∷ 1 ∷ [] }
    ∷ record { request = Build [] (doubled first_parameter); numbers = 1 ∷ 2 ∷ [] } ∷ []

-- the call's result
abbrev pub call_result : Name
call_result = answer_of 3 1

-- this name alone is tracked
abbrev pub only : Name → Name → Bool
only tracked name = same_name name tracked

-- this value alone moves
abbrev pub over_only : ℕ → Collector
over_only moved = OverSet (λ value. value == moved)

-- the calls of the same block with a variable in place of the parameter
abbrev pub used_calls : List AnsweredCall
used_calls =
    record { request = CreateBlock; numbers = 0 ∷ [] }
    ∷ record { request = DeclareVar i64; numbers = 0 ∷ [] }
    ∷ record { request = SwitchToBlock (block 0); numbers = [] }
    ∷ record { request = UseVar 0; numbers = 0 ∷ [] }
    ∷ record { request = Build [] call_instruction; numbers = 0 ∷ 1 ∷ [] }
    ∷ record { request = Build [] (doubled (answer_of 3 0)); numbers = 1 ∷ 2 ∷ [] } ∷ []

-- the calls of the same block where the parameter is assigned to a variable
abbrev pub assigned_calls : List AnsweredCall
assigned_calls =
    record { request = CreateBlock; numbers = 0 ∷ [] }
    ∷ record { request = AppendFunctionParams (block 0) (i64 ∷ []); numbers = 0 ∷ [] }
    ∷ record { request = DeclareVar i64; numbers = 0 ∷ [] }
    ∷ record { request = SwitchToBlock (block 0); numbers = [] }
    ∷ record { request = DefVar 0 first_parameter; numbers = [] }
    ∷ record { request = Build [] call_instruction; numbers = 0 ∷ 1 ∷ [] } ∷ []

-- the function takes an `i64`
abbrev pub tracked_signature : SignatureShape
tracked_signature = record first_signature { params = record { value_type = i64 } ∷ [] }

-- the function so far of the first calls: its block with the parameter, the call, and the sum
abbrev pub block_of_tracked : Body
block_of_tracked = with_params (with_block (empty_calling tracked_signature)) 0 (i64 ∷ [])

abbrev pub called_body : Body
called_body = with_inst (inserted_in block_of_tracked 0) 0 Back (shape.Call 0 []) (i32 ∷ []) 0

abbrev pub tracked_body : Body
tracked_body = with_inst called_body 0 Back (shape.Binary Iadd (0 ∷ 0 ∷ [])) (i64 ∷ []) 0

-- variables hold zero wherever control comes from
abbrev pub no_bits : Unknowns
no_bits entries variable = 0

-- the runs from the entry, where the parameter is tracked
abbrev pub tracked_script : World → Machine ScriptStanding Observation
tracked_script world =
    interrupted_script tracked_calls no_state no_bits 0 (block 0)
    (script_run_so_far tracked_calls tracked_body world (only first_parameter))

abbrev pub tracked_function : World → Collector → Machine FunctionStanding Observation
tracked_function world collector =
    interrupted_function no_state no_bits 0 (function_run_so_far tracked_calls tracked_body world collector)

-- what the parameter holds behind the call, and its value
abbrev pub name_behind : World → Bits
name_behind world = (state_after (tracked_script world) 1).state.names first_parameter

abbrev pub value_behind : World → Collector → Bits
value_behind world collector = (state_after (tracked_function world collector) 1).state.values 0

-- In a world that passes 64, and that adds 16 to what moves, both move; the value doesn't where the collector forgets it.
pub record BothMove (world : World) : Type 0 where
  pub by_script : name_behind world ≡ 80
  pub by_function : value_behind world (over_only 0) ≡ 80
  pub forgotten : value_behind world (OverSet (λ value. false)) ≡ 64

pub record TrackedExamples : Type 0 where
  -- the calls meet the premises, and the function carries them and reads right
  pub premises : PremisesSoFar (may_grow tracked_calls) tracked_calls tracked_signature
  pub carried : Carries tracked_calls tracked_body no_state
  pub reads_right : ReadsRight tracked_calls tracked_signature tracked_body no_state
  -- in such a run both move
  pub both_move : (world : World) × BothMove world
  -- the parameter is apart from variables, and the collector is over its value exactly; so is the call's result
  pub moves : MovesTracked tracked_calls (only first_parameter) (over_only 0)
  pub result_moves : MovesTracked tracked_calls (only call_result) (over_only 1)
  -- a collector that forgets the value isn't, nor is one over each value
  pub forgets : MovesAlike tracked_calls (only first_parameter) (OverSet (λ value. false)) → ⊥
  pub moves_more : MovesAlike tracked_calls (only first_parameter) (OverSet (λ value. true)) → ⊥
  -- what a use answers isn't apart, nor is what is assigned
  pub copies : (collector : Collector) → MovesAlike used_calls (only (answer_of 3 0)) collector → ⊥
  pub assigns : (collector : Collector) → MovesAlike assigned_calls (only first_parameter) collector → ⊥
