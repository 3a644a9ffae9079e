-- A block with a parameter of the caller's is carried.
use Rattle.std.proofs.Common.{◌≡◌, [], ◌∷◌, inr, refl, arith}
use Rattle.clif_types.specs.declared.extname.UserFuncName.TheVariants.{Testcase}
use Rattle.clif_ir.specs.Body.{empty_body}
use Rattle.clif_ir.specs.Consistent.{IsConsistent}
use Rattle.clif_ir.proofs.KeepsBlock.{with_block_consistent}
use Rattle.clif_ir.proofs.Linking.{empty_consistent}
use Rattle.clif_ssa.specs.Ssa.{no_state}
use Rattle.clif_ssa.specs.Structured.{HasType}
use Rattle.clif_meaning.specs.Name.{answer_of}
use Rattle.clif_meaning.specs.Request.{CreateBlock, AppendFunctionParams}
use Rattle.clif_meaning.specs.Examples.{i8, i32}
use Rattle.clif_meaning.specs.BranchExamples.{block}
use Rattle.clif_meaning.specs.ParameterExamples.{difference_signature}
use Rattle.clif_simulation.specs.Carries.{Carries}
use Rattle.clif_simulation.specs.ParameterCarryingExamples.{parameter_calls, block_alone, parameter_body}
use Rattle.clif_simulation.proofs.Beginning.{carries_nothing}
use Rattle.clif_simulation.proofs.Calls.{carries_created}
use Rattle.clif_simulation.proofs.ParameterCalls.{carries_params}

pub consistent : IsConsistent block_alone
consistent =
    with_block_consistent (empty_body (Testcase (102 ∷ [])) difference_signature) (empty_consistent (Testcase (102 ∷ [])) difference_signature) (omega arith)

created : Carries (record { request = CreateBlock; numbers = 0 ∷ [] } ∷ []) block_alone no_state
created =
    carries_created [] (empty_body (Testcase (102 ∷ [])) difference_signature) no_state (carries_nothing (Testcase (102 ∷ [])) difference_signature) no_state (0 ∷ []) refl
    (λ x b. refl) (λ b. refl) (λ b. refl) refl

pub carried : Carries parameter_calls (parameter_body i32) no_state
carried =
    carries_params (record { request = CreateBlock; numbers = 0 ∷ [] } ∷ []) block_alone no_state created consistent 0 (block 0) refl (omega arith) refl (i32 ∷ [])
    (record { request = AppendFunctionParams (block 0) (i32 ∷ []); numbers = 0 ∷ [] }) (inr refl) refl

pub missing : Carries parameter_calls block_alone no_state → ⊥
missing carries = let typed : HasType block_alone 0 i32 = carries.holds.values_typed (answer_of 1 0) i32 refl in absurd (omega (arith, typed.0))

pub other_type : Carries parameter_calls (parameter_body i8) no_state → ⊥
other_type carries =
    let typed : HasType (parameter_body i8) 0 i32 = carries.holds.values_typed (answer_of 1 0) i32 refl in
    differ typed.1
  where
    differ : i8 ≡ i32 → ⊥
    differ same = cc
