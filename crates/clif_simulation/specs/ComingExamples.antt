-- A worked example of the reading along edges that may still come: a block that only such an edge will reach. Beside runs along it
-- the block reads right; with another constant there it doesn't, though no other run comes there. Own.
use Rattle.std.specs.Prelude.{◌≡◌, ℕ, pos, if◌then◌else◌, List, [], ◌∷◌, None, Some, false}
use Rattle.clif_types.specs.declared.extname.UserFuncName.TheVariants.{Testcase}
use Rattle.clif_instructions.specs.declared.insert_at.InsertAt.TheVariants.{Back}
use Rattle.clif_instructions.specs.declared.instructions.InstructionData.TheVariants.{UnaryImm}
use Rattle.clif_ir.specs.Body.{Body, empty_body}
use Rattle.clif_ir.specs.Changes.{inserted_in, with_block, with_inst}
use Rattle.clif_ssa.specs.Ssa.{no_state}
use Rattle.clif_meaning.specs.Name.{same_name}
use Rattle.clif_meaning.specs.Request.{CreateBlock, SwitchToBlock, EnsureInsertedBlock, AnsweredCall}
use Rattle.clif_meaning.specs.Acceptance.{iconst}
use Rattle.clif_meaning.specs.Examples.{i32, first_signature}
use Rattle.clif_meaning.specs.BranchExamples.{block}
use Rattle.clif_meaning.specs.World.{World}
use Rattle.clif_meaning.specs.Machine.{state_after}
use Rattle.clif_simulation.specs.Carries.{Carries}
use Rattle.clif_simulation.specs.Reading.{behind, may_grow, script_run_so_far}
use Rattle.clif_simulation.specs.Coming.{Arrivals, Coming, MayCome, ReadsRightComing, coming_script}

-- two blocks, of which the first is the entry and empty so far, and the second has a constant
abbrev pub second_calls : List AnsweredCall
second_calls =
    record { request = CreateBlock; numbers = 0 ∷ [] } ∷ record { request = CreateBlock; numbers = 1 ∷ [] }
    ∷ record { request = SwitchToBlock (block 0); numbers = [] } ∷ record { request = EnsureInsertedBlock; numbers = [] }
    ∷ record { request = SwitchToBlock (block 1); numbers = [] } ∷ record { request = iconst i32 (pos 7); numbers = 0 ∷ 0 ∷ [] } ∷ []

abbrev pub two_blocks : Body
two_blocks = inserted_in (with_block (with_block (empty_body (Testcase (50 ∷ [])) first_signature))) 0

-- the function so far, with `number` for the 7:
--     block0:
--     block1:
--         v0 = iconst.i32 7
abbrev pub second_body : ℕ → Body
second_body number = with_inst (inserted_in two_blocks 1) 1 Back (UnaryImm (pos number)) (i32 ∷ []) 0

-- the first block may still lead to the second
abbrev pub to_second : Coming
to_second from = if same_name from (block 0) then block 1 ∷ [] else []

-- and a run goes there, with 9 in each byte of memory
abbrev pub comes_there : Arrivals
comes_there entries = Some (record { block = block 1; memory = λ address. 9; events = []; parameters = []; call = None })

pub record ComingExamples : Type 0 where
  pub carried : Carries second_calls (second_body 7) no_state
  pub may_come : MayCome to_second second_calls no_state
  pub comes : (world : World)
      → (state_after (coming_script to_second comes_there second_calls no_state (λ entries x. 0) 0 (block 0)
      (script_run_so_far second_calls (second_body 7) world (λ x. false))) 1).place ≡ behind (block 1) 0
  pub reads_right : ReadsRightComing (may_grow second_calls) second_calls first_signature (second_body 7) no_state
  pub other_constant : ReadsRightComing (may_grow second_calls) second_calls first_signature (second_body 8) no_state → ⊥
