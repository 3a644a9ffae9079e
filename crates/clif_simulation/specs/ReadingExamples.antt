-- Worked examples of the reading on bits: the row `first` up to its constant, before its block is sealed. The variable is
-- used before it was assigned, so its parameter waits. Own.
use Rattle.std.specs.Prelude.{false, ℕ, zero, suc, List, [], ◌∷◌, pos}
use Rattle.clif_types.specs.declared.extname.UserFuncName.TheVariants.{Testcase}
use Rattle.clif_instructions.specs.declared.instructions.InstructionData.TheVariants.{UnaryImm}
use Rattle.clif_tables.specs.Lists.{no_entries}
use Rattle.clif_nodes.specs.declared.nodes.ValueOrigin.TheVariants.{Result, Param}
use Rattle.clif_ir.specs.Body.{Body}
use Rattle.clif_records.specs.declared.tables.Pending.{Pending}
use Rattle.clif_records.specs.Tables.{No}
use Rattle.std.specs.FinMap as map
use Rattle.clif_records.specs.Tracking.{nothing_tracked}
use Rattle.clif_ssa.specs.Ssa.{SsaState}
use Rattle.clif_meaning.specs.World.{World}
use Rattle.clif_meaning.specs.Machine.{At}
use Rattle.clif_meaning.specs.ScriptMachine.{ScriptState}
use Rattle.clif_meaning.specs.FunctionMachine.{FunctionState}
use Rattle.clif_meaning.specs.View.{block_of}
use Rattle.clif_meaning.specs.Examples.{i32, block0, first_signature}
use Rattle.clif_meaning.specs.ScriptExamples.{answered_calls}
use Rattle.clif_simulation.specs.CarryingExamples.{recorded_in}
use Rattle.clif_simulation.specs.Tables.{program_so_far}
use Rattle.clif_simulation.specs.Reading.{StartAlike, ReadsRightFromAnywhere}

-- the function so far, with `number` for the 7:
--     block0(v0: i32):
--         v1 = iconst.i32 7
abbrev pub half_body_with : ℕ → Body
half_body_with number = record {
  name = Testcase (102 ∷ []);
  signature = first_signature;
  values = record { ty = i32; origin = Param 0 } ∷ record { ty = i32; origin = Result 0 0 } ∷ [];
  insts = record { shape = UnaryImm (pos number); results = 1 ∷ []; block = 0; srcloc = 0 } ∷ [];
  blocks = record { params = 0 ∷ []; insts = 0 ∷ []; is_cold = false } ∷ [];
  layout = 0 ∷ [];
  tables = no_entries;
}

abbrev pub half_body : Body
half_body = half_body_with 7

-- the construction so far, where this value is recorded for the variable, and these parameters wait
abbrev pub half_state_with : ℕ → List Pending → SsaState
half_state_with value waiting = record {
  records = map.from_entries (recorded_in 0 value 0 ∷ []);
  blocks = record { predecessors = []; sealed = No waiting } ∷ [];
  tracking = nothing_tracked;
}

abbrev pub waiting_parameter : Pending
waiting_parameter = record { variable = 0; param = 0 }

abbrev pub half_state : SsaState
half_state = half_state_with 0 (waiting_parameter ∷ [])

-- A start with 9 in every variable: value 0 has `bits`, the other values and the names have any bits, here 5 and 4.
abbrev pub with_nine : World → ScriptState
with_nine world =
    record { variables = λ v. 9; names = λ x. 4; memory = world.memory; events = []; control = At ((program_so_far answered_calls).items block0) }

abbrev pub first_value : ℕ → ℕ → ℕ
first_value bits zero = bits
first_value bits (suc value) = 5

abbrev pub with_bits : ℕ → World → Body → FunctionState
with_bits bits world f = record { values = first_value bits; memory = world.memory; events = []; control = At (block_of f 0).items }

pub record ReadingExamples : Type 0 where
  -- a run may start with 9 in the variable, and the half built row reads right from there and from all other starts
  pub starts : (world : World) → StartAlike answered_calls half_body half_state 0 block0 (with_nine world) (with_bits 9 world half_body)
  pub reads_right : ReadsRightFromAnywhere answered_calls first_signature half_body half_state
  -- with another constant, with the constant on record for the variable, or where the parameter doesn't wait, it doesn't
  pub other_constant : ReadsRightFromAnywhere answered_calls first_signature (half_body_with 8) half_state → ⊥
  pub other_record : ReadsRightFromAnywhere answered_calls first_signature half_body (half_state_with 1 (waiting_parameter ∷ [])) → ⊥
  pub none_waiting : ReadsRightFromAnywhere answered_calls first_signature half_body (half_state_with 0 []) → ⊥
