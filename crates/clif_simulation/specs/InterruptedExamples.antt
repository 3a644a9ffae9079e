-- Worked examples of the reading beside interrupted runs: the row `first`, half built; the row `both_arms`, whose loop has
-- both arms of one branch; a loop before its block is sealed; one whose block has a parameter of the caller's too; and a jump
-- to a block before its parameter is made. Own.
use Rattle.std.specs.Prelude.{ℕ, false, List, [], ◌∷◌}
use Rattle.clif_types.specs.declared.extname.UserFuncName.TheVariants.{Testcase}
use Rattle.clif_instructions.specs.declared.block_call.BlockArg.TheVariants.{Value}
use Rattle.clif_instructions.specs.declared.instructions.InstructionData.TheVariants.{Jump}
use Rattle.clif_tables.specs.Lists.{no_entries}
use Rattle.clif_nodes.specs.declared.nodes.ValueOrigin.TheVariants.{Param}
use Rattle.clif_ir.specs.Body.{Body}
use Rattle.clif_records.specs.declared.tables.Pending.{Pending}
use Rattle.clif_records.specs.Tables.{No, Yes}
use Rattle.std.specs.FinMap as map
use Rattle.clif_records.specs.Tracking.{nothing_tracked}
use Rattle.clif_ssa.specs.Ssa.{SsaState}
use Rattle.clif_meaning.specs.Instruction.{Known, Edge}
use Rattle.clif_meaning.specs.Name.{Name, answer_of}
use Rattle.clif_meaning.specs.Request.{CreateBlock, SwitchToBlock, SealBlock, AppendBlockParams, AppendFunctionParams, DeclareVar, UseVar, AnsweredCall}
use Rattle.clif_meaning.specs.Acceptance.{jump}
use Rattle.clif_meaning.specs.Examples.{i32, first_signature}
use Rattle.clif_meaning.specs.BranchExamples.{block, plain, both_arms_signature}
use Rattle.clif_meaning.specs.SampleExamples.{sample_signature}
use Rattle.clif_meaning.specs.ScriptExamples.{answered_calls}
use Rattle.clif_simulation.specs.Reading.{may_grow, PremisesSoFar}
use Rattle.clif_simulation.specs.Interrupted.{ReadsRight}
use Rattle.clif_simulation.specs.CarryingExamples.{edge_to, recorded_in, loop_calls, loop_body, loop_state}
use Rattle.clif_simulation.specs.ReadingExamples.{half_body_with, half_body, half_state_with, half_state, waiting_parameter}

-- the row's construction, where this value is recorded for the variable at the end of block2, behind the sum
abbrev pub loop_state_recording : ℕ → SsaState
loop_state_recording value = record loop_state {
  records = map.from_entries (recorded_in 0 0 0 ∷ recorded_in 1 1 1 ∷ recorded_in 2 value 0 ∷ recorded_in 3 1 0 ∷ []);
}

-- a loop that uses a variable before it was assigned, while its block is unsealed
abbrev pub waiting_loop_calls : List AnsweredCall
waiting_loop_calls =
    record { request = CreateBlock; numbers = 0 ∷ [] }
    ∷ record { request = CreateBlock; numbers = 1 ∷ [] }
    ∷ record { request = DeclareVar i32; numbers = 0 ∷ [] }
    ∷ record { request = SwitchToBlock (block 0); numbers = [] }
    ∷ record { request = SealBlock (block 0); numbers = [] }
    ∷ record { request = jump (plain (block 1)); numbers = 0 ∷ [] }
    ∷ record { request = SwitchToBlock (block 1); numbers = [] }
    ∷ record { request = UseVar 0; numbers = 0 ∷ [] }
    ∷ record { request = jump (plain (block 1)); numbers = 1 ∷ [] } ∷ []

-- the function so far:
--     block0:
--         jump block1
--     block1(v0: i32):
--         jump block1
abbrev pub waiting_loop_body : Body
waiting_loop_body = record {
  name = Testcase (119 ∷ []);
  signature = both_arms_signature;
  values = record { ty = i32; origin = Param 1 } ∷ [];
  insts =
      record { shape = Jump (edge_to 1 []); results = []; block = 0; srcloc = 0 }
      ∷ record { shape = Jump (edge_to 1 []); results = []; block = 1; srcloc = 0 } ∷ [];
  blocks = record { params = []; insts = 0 ∷ []; is_cold = false } ∷ record { params = 0 ∷ []; insts = 1 ∷ []; is_cold = false } ∷ [];
  layout = 0 ∷ 1 ∷ [];
  tables = no_entries;
}

-- the construction so far, where these parameters wait in block1
abbrev pub waiting_loop_state : List Pending → SsaState
waiting_loop_state waiting = record {
  records = map.from_entries (recorded_in 1 0 0 ∷ []);
  blocks = record { predecessors = []; sealed = Yes } ∷ record { predecessors = 0 ∷ 1 ∷ []; sealed = No waiting } ∷ [];
  tracking = nothing_tracked;
}

-- an edge to the loop's block that passes this name
abbrev pub into_loop : Name → Edge Name Name
into_loop name = record { target = block 1; arguments = Known name ∷ [] }

-- a loop that passes what it used on to a parameter of the caller's, while its block is unsealed
abbrev pub passing_loop_calls : List AnsweredCall
passing_loop_calls =
    record { request = CreateBlock; numbers = 0 ∷ [] }
    ∷ record { request = CreateBlock; numbers = 1 ∷ [] }
    ∷ record { request = AppendFunctionParams (block 0) (i32 ∷ []); numbers = 0 ∷ [] }
    ∷ record { request = AppendBlockParams (block 1) (i32 ∷ []); numbers = 1 ∷ [] }
    ∷ record { request = DeclareVar i32; numbers = 0 ∷ [] }
    ∷ record { request = SwitchToBlock (block 0); numbers = [] }
    ∷ record { request = SealBlock (block 0); numbers = [] }
    ∷ record { request = jump (into_loop (answer_of 2 0)); numbers = 0 ∷ [] }
    ∷ record { request = SwitchToBlock (block 1); numbers = [] }
    ∷ record { request = UseVar 0; numbers = 2 ∷ [] }
    ∷ record { request = jump (into_loop (answer_of 9 0)); numbers = 1 ∷ [] } ∷ []

-- the function so far, with this value as the argument of block1's jump:
--     block0(v0: i32):
--         jump block1(v0)
--     block1(v1: i32, v2: i32):
--         jump block1(v2)
abbrev pub passing_loop_body_with : ℕ → Body
passing_loop_body_with argument = record {
  name = Testcase (112 ∷ []);
  signature = sample_signature;
  values =
      record { ty = i32; origin = Param 0 } ∷ record { ty = i32; origin = Param 1 } ∷ record { ty = i32; origin = Param 1 } ∷ [];
  insts =
      record { shape = Jump (edge_to 1 (Value 0 ∷ [])); results = []; block = 0; srcloc = 0 }
      ∷ record { shape = Jump (edge_to 1 (Value argument ∷ [])); results = []; block = 1; srcloc = 0 } ∷ [];
  blocks = record { params = 0 ∷ []; insts = 0 ∷ []; is_cold = false } ∷ record { params = 1 ∷ 2 ∷ []; insts = 1 ∷ []; is_cold = false } ∷ [];
  layout = 0 ∷ 1 ∷ [];
  tables = no_entries;
}

abbrev pub passing_loop_body : Body
passing_loop_body = passing_loop_body_with 2

-- the construction so far
abbrev pub passing_loop_state : SsaState
passing_loop_state = record {
  records = map.from_entries (recorded_in 1 2 0 ∷ []);
  blocks =
      record { predecessors = []; sealed = Yes }
      ∷ record { predecessors = 0 ∷ 1 ∷ []; sealed = No (record { variable = 0; param = 2 } ∷ []) } ∷ [];
  tracking = nothing_tracked;
}

-- a jump that passes an argument to a block before the block's parameter is made
abbrev pub early_jump_calls : List AnsweredCall
early_jump_calls =
    record { request = CreateBlock; numbers = 0 ∷ [] }
    ∷ record { request = CreateBlock; numbers = 1 ∷ [] }
    ∷ record { request = AppendFunctionParams (block 0) (i32 ∷ []); numbers = 0 ∷ [] }
    ∷ record { request = SwitchToBlock (block 0); numbers = [] }
    ∷ record { request = SealBlock (block 0); numbers = [] }
    ∷ record { request = jump (into_loop (answer_of 2 0)); numbers = 0 ∷ [] } ∷ []

-- the function so far, whose block1 isn't in the layout yet:
--     block0(v0: i32):
--         jump block1(v0)
abbrev pub early_jump_body : Body
early_jump_body = record {
  name = Testcase (101 ∷ []);
  signature = sample_signature;
  values = record { ty = i32; origin = Param 0 } ∷ [];
  insts = record { shape = Jump (edge_to 1 (Value 0 ∷ [])); results = []; block = 0; srcloc = 0 } ∷ [];
  blocks = record { params = 0 ∷ []; insts = 0 ∷ []; is_cold = false } ∷ record { params = []; insts = []; is_cold = false } ∷ [];
  layout = 0 ∷ [];
  tables = no_entries;
}

-- the construction so far
abbrev pub early_jump_state : SsaState
early_jump_state = record {
  records = map.empty;
  blocks = record { predecessors = []; sealed = Yes } ∷ record { predecessors = 0 ∷ []; sealed = No [] } ∷ [];
  tracking = nothing_tracked;
}

pub record InterruptedExamples : Type 0 where
  -- the half built row reads right; with another constant, with the constant on record for the variable, or where the
  -- parameter doesn't wait, it doesn't
  pub reads_right : ReadsRight answered_calls first_signature half_body half_state
  pub other_constant : ReadsRight answered_calls first_signature (half_body_with 8) half_state → ⊥
  pub other_record : ReadsRight answered_calls first_signature half_body (half_state_with 1 (waiting_parameter ∷ [])) → ⊥
  pub none_waiting : ReadsRight answered_calls first_signature half_body (half_state_with 0 []) → ⊥
  -- so does the loop; with the parameter on record for the variable behind the sum, it doesn't
  pub loop_reads_right : ReadsRight loop_calls both_arms_signature loop_body loop_state
  pub loop_other_record : ReadsRight loop_calls both_arms_signature loop_body (loop_state_recording 1) → ⊥
  -- so does the loop whose block is unsealed; where its parameter doesn't wait, it doesn't
  pub waiting_loop_reads_right : ReadsRight waiting_loop_calls both_arms_signature waiting_loop_body (waiting_loop_state (waiting_parameter ∷ []))
  pub waiting_loop_none_waiting : ReadsRight waiting_loop_calls both_arms_signature waiting_loop_body (waiting_loop_state []) → ⊥
  -- so does the loop that passes what it used on to a parameter; where it passes the parameter itself, it doesn't
  pub passing_loop_reads_right : ReadsRight passing_loop_calls sample_signature passing_loop_body passing_loop_state
  pub passing_loop_other_argument : ReadsRight passing_loop_calls sample_signature (passing_loop_body_with 1) passing_loop_state → ⊥
  -- a jump may come before its target's parameter: the premises hold so far, as they don't with no growing block, and it reads
  -- right
  pub early_jump_premises : PremisesSoFar (may_grow early_jump_calls) early_jump_calls sample_signature
  pub early_jump_settled : PremisesSoFar (λ block. false) early_jump_calls sample_signature → ⊥
  pub early_jump_reads_right : ReadsRight early_jump_calls sample_signature early_jump_body early_jump_state
