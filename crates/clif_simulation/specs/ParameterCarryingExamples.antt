-- A worked example of a function that carries calls which make parameters of the caller's: a block with one, and functions
-- that don't carry the calls, since the parameter is missing or of another type. Own.
use Rattle.std.specs.Prelude.{List, [], ◌∷◌}
use Rattle.clif_types.specs.declared.types.«Type».{«Type»}
use Rattle.clif_types.specs.declared.extname.UserFuncName.TheVariants.{Testcase}
use Rattle.clif_ir.specs.Body.{Body, empty_body}
use Rattle.clif_ir.specs.Changes.{with_block, with_param}
use Rattle.clif_ssa.specs.Ssa.{no_state}
use Rattle.clif_meaning.specs.Request.{CreateBlock, AppendFunctionParams, AnsweredCall}
use Rattle.clif_meaning.specs.Examples.{i8, i32}
use Rattle.clif_meaning.specs.BranchExamples.{block}
use Rattle.clif_meaning.specs.ParameterExamples.{difference_signature}
use Rattle.clif_simulation.specs.Carries.{Carries}

-- a block, and a parameter of it
abbrev pub parameter_calls : List AnsweredCall
parameter_calls =
    record { request = CreateBlock; numbers = 0 ∷ [] } ∷ record { request = AppendFunctionParams (block 0) (i32 ∷ []); numbers = 0 ∷ [] } ∷ []

abbrev pub block_alone : Body
block_alone = with_block (empty_body (Testcase (102 ∷ [])) difference_signature)

-- with a parameter of this type:
--     block0(v0: i32):
abbrev pub parameter_body : «Type» → Body
parameter_body ty = with_param block_alone 0 ty

pub record ParameterCarryingExamples : Type 0 where
  pub carried : Carries parameter_calls (parameter_body i32) no_state
  pub missing : Carries parameter_calls block_alone no_state → ⊥
  pub other_type : Carries parameter_calls (parameter_body i8) no_state → ⊥
