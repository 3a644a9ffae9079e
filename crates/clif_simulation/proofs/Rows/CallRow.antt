-- A block with an outside call is carried.
use Rattle.std.proofs.Common.{rules, ◌≡◌, ℕ, zero, suc, ◌+◌, ◌<◌, List, [], ◌∷◌, slice_get, Some, refl, arith}
use Rattle.std.proofs.lemmas.Grind.{common_steps}
use Rattle.clif_types.specs.declared.extname.UserFuncName.TheVariants.{Testcase}
use Rattle.clif_types.specs.Signature.{SignatureShape}
use Rattle.clif_instructions.specs.declared.instructions.InstructionData.TheVariants as shape
use Rattle.clif_ir.specs.Body.{empty_body}
use Rattle.clif_ir.specs.Changes.{with_block}
use Rattle.clif_ir.specs.Consistent.{IsConsistent}
use Rattle.clif_ir.proofs.KeepsBlock.{with_block_consistent}
use Rattle.clif_ir.proofs.Linking.{empty_consistent}
use Rattle.clif_ssa.specs.Ssa.{no_state}
use Rattle.clif_ssa.specs.Structured.{HasType}
use Rattle.clif_meaning.specs.Name.{answer_of}
use Rattle.clif_meaning.specs.Request.{CreateBlock, AnsweredCall}
use Rattle.clif_meaning.specs.Examples.{i8, i32, first_signature}
use Rattle.clif_meaning.specs.BranchExamples.{block}
use Rattle.clif_simulation.specs.Carries.{Carries}
use Rattle.clif_simulation.specs.CallCarryingExamples.{before_call, block_with_callee, call_body, call_calls, call_instruction, empty_calling, with_callee}
use Rattle.clif_simulation.proofs.Beginning.{carries_nothing}
use Rattle.clif_simulation.proofs.Building.{carries_plain}
use Rattle.clif_simulation.proofs.Calls.{carries_created, carries_switched}
use Rattle.clif_simulation.proofs.Further.{carries_pooled}

empty_is_consistent : (signature : SignatureShape) → IsConsistent (empty_calling signature)
empty_is_consistent signature = first_of (search rules, grind (arith, common_steps))

pub block_consistent : (signature : SignatureShape) → IsConsistent (with_block (empty_calling signature))
block_consistent signature = with_block_consistent (empty_calling signature) (empty_is_consistent signature) (omega arith)

consistent : IsConsistent block_with_callee
consistent = block_consistent first_signature

abbrev pub one_call : List AnsweredCall
one_call = record { request = CreateBlock; numbers = 0 ∷ [] } ∷ []

started : (signature : SignatureShape) → Carries [] (empty_calling signature) no_state
started signature =
    carries_pooled [] (empty_body (Testcase (99 ∷ [])) signature) no_state with_callee (empty_consistent (Testcase (99 ∷ [])) signature)
    (record { constants = λ k bytes here. here; signatures = λ k signature here. absurd (none k signature here); functions = λ k function here. absurd (none k function here); maps = λ inst. refl })
    (carries_nothing (Testcase (99 ∷ [])) signature)
  where
    none : {X : Type 0} (k : ℕ) (x : X) → slice_get [] k ≡ Some x → ⊥
    none zero x here = cc
    none (suc k) x here = cc

pub created : (signature : SignatureShape) → Carries one_call (with_block (empty_calling signature)) no_state
created signature = carries_created [] (empty_calling signature) no_state (started signature) no_state (0 ∷ []) refl (λ x b. refl) (λ b. refl) (λ b. refl) refl

switched : Carries before_call block_with_callee no_state
switched = carries_switched one_call block_with_callee no_state (created first_signature) (block 0) []

pub carried : Carries call_calls (call_body i32) no_state
carried =
    carries_plain before_call block_with_callee no_state switched consistent 0 (block 0) (record { current = refl; named = refl }) refl (omega arith)
    (shape.Call 0 []) [] call_instruction 0 (0 ∷ 0 ∷ [])
    (record { operation = refl; arguments = refl; no_edges = refl; edges = refl; contexts_same = refl; values = tt; contexts_earlier = tt }) (i32 ∷ []) refl refl numbered refl
  where
    numbered : (k : ℕ) → k < 1 → slice_get (0 ∷ 0 ∷ []) (suc k) ≡ Some (0 + k)
    numbered zero below = refl
    numbered (suc k) below = absurd (omega (arith, below))

pub other_type : Carries call_calls (call_body i8) no_state → ⊥
other_type carries =
    let typed : HasType (call_body i8) 0 i32 = carries.holds.values_typed (answer_of 2 1) i32 refl in
    differ typed.1
  where
    differ : i8 ≡ i32 → ⊥
    differ same = cc
