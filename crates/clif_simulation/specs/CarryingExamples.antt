-- A worked example of a function that carries calls: the row `both_arms`, whose loop has both arms of one branch. Own.
use Rattle.std.specs.Prelude.{◌≡◌, ℕ, ◌<◌, length, false, List, [], ◌∷◌, Some, ℤ, pos, negsuc}
use Rattle.clif_types.specs.declared.target.PointerWidth.TheVariants.{U64}
use Rattle.clif_types.specs.Target.{pointer_type_of}
use Rattle.clif_types.specs.declared.extname.UserFuncName.TheVariants.{Testcase}
use Rattle.clif_instructions.specs.declared.block_call.BlockArg.{BlockArg}
use Rattle.clif_instructions.specs.declared.block_call.BlockArg.TheVariants.{Value}
use Rattle.clif_instructions.specs.declared.block_call.BlockCall.{BlockCall}
use Rattle.clif_instructions.specs.declared.instructions.InstructionData.TheVariants.{UnaryImm, Binary, Jump, Brif, MultiAry}
use Rattle.clif_tables.specs.Lists.{no_entries}
use Rattle.clif_nodes.specs.declared.nodes.ValueOrigin.TheVariants.{Result, Param}
use Rattle.clif_ir.specs.Body.{Body}
use Rattle.clif_ir.specs.Consistent.{IsConsistent}
use Rattle.clif_records.specs.Tables.{No, Sealed, Yes}
use Rattle.std.specs.FinMap as map
use Rattle.clif_records.specs.declared.tables.Recorded.{Recorded}
use Rattle.clif_records.specs.Tracking.{nothing_tracked}
use Rattle.clif_ssa.specs.Ssa.{SsaState}
use Rattle.clif_opcodes.specs.declared.opcodes.BinaryOpcode.TheVariants as binary
use Rattle.clif_meaning.specs.Instruction.{Compute}
use Rattle.clif_meaning.specs.Instruction as operation
use Rattle.clif_meaning.specs.Name.{answer_of}
use Rattle.clif_meaning.specs.Request.{CreateBlock, SwitchToBlock, SealBlock, DeclareVar, DefVar, UseVar, Build, AnsweredCall, script_of}
use Rattle.clif_meaning.specs.Acceptance.{iconst, jump, return_}
use Rattle.clif_meaning.specs.FunctionView.{FunctionView}
use Rattle.clif_meaning.specs.View.{view_of}
use Rattle.clif_meaning.specs.Event.{CallShape, Event}
use Rattle.clif_meaning.specs.World.{World}
use Rattle.clif_meaning.specs.Premises.{Premises}
use Rattle.clif_meaning.specs.Headline.{IsWorldOf, script_run}
use Rattle.clif_meaning.specs.Examples.{i32, moved_by_16}
use Rattle.clif_meaning.specs.BranchExamples.{block, branch, plain, both_arms_script, both_arms_signature, both_arms_function}
use Rattle.clif_meaning.specs.SampleExamples.{sample_script, sample_signature, sample_function}
use Rattle.clif_simulation.specs.Carries.{Carries}
use Rattle.clif_simulation.specs.Laws.{IsFinished}

-- the calls of the row, with the numbers that the builder answers
abbrev pub loop_calls : List AnsweredCall
loop_calls =
    record { request = CreateBlock; numbers = 0 ∷ [] }
    ∷ record { request = CreateBlock; numbers = 1 ∷ [] }
    ∷ record { request = CreateBlock; numbers = 2 ∷ [] }
    ∷ record { request = CreateBlock; numbers = 3 ∷ [] }
    ∷ record { request = DeclareVar i32; numbers = 0 ∷ [] }
    ∷ record { request = SwitchToBlock (block 0); numbers = [] }
    ∷ record { request = SealBlock (block 0); numbers = [] }
    ∷ record { request = iconst i32 (pos 5); numbers = 0 ∷ 0 ∷ [] }
    ∷ record { request = DefVar 0 (answer_of 7 1); numbers = [] }
    ∷ record { request = jump (plain (block 1)); numbers = 1 ∷ [] }
    ∷ record { request = SwitchToBlock (block 1); numbers = [] }
    ∷ record { request = UseVar 0; numbers = 1 ∷ [] }
    ∷ record { request = branch (answer_of 11 0) (block 2) (block 3); numbers = 2 ∷ [] }
    ∷ record { request = SwitchToBlock (block 2); numbers = [] }
    ∷ record { request = SealBlock (block 2); numbers = [] }
    ∷ record { request = UseVar 0; numbers = 1 ∷ [] }
    ∷ record { request = iconst i32 (negsuc 0); numbers = 3 ∷ 2 ∷ [] }
    ∷ record {
      request = Build [] (record { operation = Compute (operation.Binary binary.Iadd); controlling = i32; operands = answer_of 15 0 ∷ answer_of 16 1 ∷ []; contexts = []; edges = [] });
      numbers = 4 ∷ 3 ∷ [];
    }
    ∷ record { request = DefVar 0 (answer_of 17 1); numbers = [] }
    ∷ record { request = branch (answer_of 17 1) (block 1) (block 1); numbers = 5 ∷ [] }
    ∷ record { request = SealBlock (block 1); numbers = [] }
    ∷ record { request = SwitchToBlock (block 3); numbers = [] }
    ∷ record { request = SealBlock (block 3); numbers = [] }
    ∷ record { request = UseVar 0; numbers = 1 ∷ [] }
    ∷ record { request = return_ (answer_of 23 0 ∷ []); numbers = 6 ∷ [] } ∷ []

-- an edge
abbrev pub edge_to : ℕ → List BlockArg → BlockCall
edge_to target args = record { block = target; args = args }

-- the function, with `number` for the 5, this value as the argument of block0's jump, these edges for the arms of
-- block1, and these for the arms of block2:
--     block0:
--         v0 = iconst.i32 5
--         jump block1(v0)
--     block1(v1: i32):
--         brif v1, block2, block3
--     block2:
--         v2 = iconst.i32 -1
--         v3 = iadd v1, v2
--         brif v3, block1(v3), block1(v3)
--     block3:
--         return v1
abbrev pub loop_body_with : ℤ → ℕ → List BlockCall → List BlockCall → Body
loop_body_with number argument first second = record {
  name = Testcase (108 ∷ []);
  signature = both_arms_signature;
  values =
      record { ty = i32; origin = Result 0 0 } ∷ record { ty = i32; origin = Param 1 }
      ∷ record { ty = i32; origin = Result 3 0 } ∷ record { ty = i32; origin = Result 4 0 } ∷ [];
  insts =
      record { shape = UnaryImm number; results = 0 ∷ []; block = 0; srcloc = 0 }
      ∷ record { shape = Jump (edge_to 1 (Value argument ∷ [])); results = []; block = 0; srcloc = 0 }
      ∷ record { shape = Brif 1 first; results = []; block = 1; srcloc = 0 }
      ∷ record { shape = UnaryImm (negsuc 0); results = 2 ∷ []; block = 2; srcloc = 0 }
      ∷ record { shape = Binary binary.Iadd (1 ∷ 2 ∷ []); results = 3 ∷ []; block = 2; srcloc = 0 }
      ∷ record { shape = Brif 3 second; results = []; block = 2; srcloc = 0 }
      ∷ record { shape = MultiAry (1 ∷ []); results = []; block = 3; srcloc = 0 } ∷ [];
  blocks =
      record { params = []; insts = 0 ∷ 1 ∷ []; is_cold = false }
      ∷ record { params = 1 ∷ []; insts = 2 ∷ []; is_cold = false }
      ∷ record { params = []; insts = 3 ∷ 4 ∷ 5 ∷ []; is_cold = false }
      ∷ record { params = []; insts = 6 ∷ []; is_cold = false } ∷ [];
  layout = 0 ∷ 1 ∷ 2 ∷ 3 ∷ [];
  tables = no_entries;
}

abbrev pub to_two_or_three : List BlockCall
to_two_or_three = edge_to 2 [] ∷ edge_to 3 [] ∷ []

abbrev pub back_with_sum : List BlockCall
back_with_sum = edge_to 1 (Value 3 ∷ []) ∷ edge_to 1 (Value 3 ∷ []) ∷ []

abbrev pub loop_body : Body
loop_body = loop_body_with (pos 5) 0 to_two_or_three back_with_sum

-- the variable is recorded to have this value at this block's end, where so many look-ups in its predecessors began
abbrev pub recorded_in : ℕ → ℕ → ℕ → (ℕ × ℕ) × Recorded
recorded_in block value lookups = ((0, block), record { value = Some value; lookups = lookups })

-- the state of the construction, where block1 is in this state: which value the variable has at each block's end, and
-- which branches lead to each block
abbrev pub loop_state_with : Sealed → SsaState
loop_state_with sealed = record {
  records = map.from_entries (recorded_in 0 0 0 ∷ recorded_in 1 1 1 ∷ recorded_in 2 3 0 ∷ recorded_in 3 1 0 ∷ []);
  blocks =
      record { predecessors = []; sealed = Yes } ∷ record { predecessors = 1 ∷ 5 ∷ []; sealed = sealed }
      ∷ record { predecessors = 2 ∷ []; sealed = Yes } ∷ record { predecessors = 2 ∷ []; sealed = Yes } ∷ [];
  tracking = nothing_tracked;
}

abbrev pub loop_state : SsaState
loop_state = loop_state_with Yes

-- The machine sees the same of both functions: what stands in their blocks, aliases, and the types of the values.
pub record SeenAlike (f : Body) (view : FunctionView) : Type 0 where
  pub signature : (view_of f).signature ≡ view.signature
  pub entry : (view_of f).entry ≡ view.entry
  pub blocks : (number : ℕ) → (view_of f).blocks number ≡ view.blocks number
  pub resolved : (value : ℕ) → (view_of f).resolved value ≡ view.resolved value
  pub value_type : (value : ℕ) → value < length f.values → (view_of f).value_type value ≡ view.value_type value
  pub slots : (view_of f).slots ≡ view.slots

pub record CarryingExamples : Type 0 where
  -- these are the calls and the function of the row
  pub script : script_of loop_calls ≡ both_arms_script
  pub view : SeenAlike loop_body both_arms_function
  -- the function is consistent, carries the calls, and is finished: the premises of `CarryingMeansTheSame` hold together
  pub consistent : IsConsistent loop_body
  pub carried : Carries loop_calls loop_body loop_state
  pub finished : IsFinished loop_calls loop_body loop_state
  -- with the parameter of block1 as the argument of block0's jump, it doesn't: that isn't there yet
  pub other_argument : Carries loop_calls (loop_body_with (pos 5) 1 to_two_or_three back_with_sum) loop_state → ⊥
  -- with another constant, with swapped arms of block1, or with an argument on one arm of block2 alone, it carries others
  pub other_constant : Carries loop_calls (loop_body_with (pos 6) 0 to_two_or_three back_with_sum) loop_state → ⊥
  pub swapped_arms : Carries loop_calls (loop_body_with (pos 5) 0 (edge_to 3 [] ∷ edge_to 2 [] ∷ []) back_with_sum) loop_state → ⊥
  pub one_argument : Carries loop_calls (loop_body_with (pos 5) 0 to_two_or_three (edge_to 1 (Value 3 ∷ []) ∷ edge_to 1 [] ∷ [])) loop_state → ⊥
  -- while block1 is unsealed, nothing is finished
  pub unsealed : IsFinished loop_calls loop_body (loop_state_with (No [])) → ⊥

-- There is a world in which the row's function can run, with a collector that moves, and every world meets the premises for
-- the row.
pub record LoopMeetsPremises : Type 0 where
  pub a_world : (world : World) × IsWorldOf both_arms_signature both_arms_function U64 world × ((events : List Event) (call : CallShape) → world.moved events call ≡ moved_by_16)
  pub premises : (world : World) → Premises both_arms_script both_arms_signature (pointer_type_of U64) (script_run both_arms_script both_arms_function world)

-- The same of the row `sample`, whose function takes an argument.
pub record SampleMeetsPremises : Type 0 where
  pub a_world : (world : World) × IsWorldOf sample_signature sample_function U64 world × ((events : List Event) (call : CallShape) → world.moved events call ≡ moved_by_16)
  pub premises : (world : World) → Premises sample_script sample_signature (pointer_type_of U64) (script_run sample_script sample_function world)
