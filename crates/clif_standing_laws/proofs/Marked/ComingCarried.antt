-- The function of the worked example of coming edges is consistent, and carries its calls.
use Rattle.std.proofs.Common.{◌≡◌, ◌≢◌, ℕ, zero, suc, ◌+◌, ◌<◌, ◌==◌, false, List, [], ◌∷◌, ◌++◌, length, slice_get, Some, None, refl, sym, ◌∙◌, arith}
use Rattle.std.specs.FinMap as map
use Rattle.std.specs.List.{AllByRecursion}
use Rattle.std.specs.Prelude.{if◌then◌else◌, slice_index}
use Rattle.std.proofs.lemmas.Bool.Decides.{nat_tests}
use Rattle.clif_types.specs.declared.extname.UserFuncName.TheVariants.{Testcase}
use Rattle.clif_instructions.specs.declared.insert_at.InsertAt.TheVariants.{Back}
use Rattle.clif_instructions.specs.declared.instructions.InstructionData.TheVariants as shape
use Rattle.clif_opcodes.specs.declared.opcodes.BinaryOpcode.TheVariants.{Iadd}
use Rattle.clif_ir.specs.Body.{Body, empty_body}
use Rattle.clif_ir.specs.Changes.{inserted_in, with_block}
use Rattle.clif_ir.specs.Consistent.{IsConsistent}
use Rattle.clif_ir.proofs.KeepsBlock.{with_block_consistent}
use Rattle.clif_ir.proofs.KeepsInst.{with_inst_consistent}
use Rattle.clif_ir.proofs.KeepsParam.{with_param_consistent}
use Rattle.clif_ir.proofs.KeepsPlaces.{with_order_consistent}
use Rattle.clif_ir.proofs.Linking.{empty_consistent}
use Rattle.clif_records.specs.Tables.{No, is_yes, pending_of}
use Rattle.clif_records.specs.Tracking.{sets}
use Rattle.clif_records.proofs.RecordMaps.{record_at-empty, record_at-insert}
use Rattle.clif_ssa.specs.Ssa.{Records, SamePredecessors, SsaState, Waits, no_state, record_of, sealed_of}
use Rattle.clif_ssa.specs.Tracked.{TracksMade}
use Rattle.clif_ssa.proofs.Bodies.{firm_from}
use Rattle.clif_ssa.proofs.Constructed.{param_constructs}
use Rattle.clif_ssa.proofs.Housing.{housed_from}
use Rattle.clif_ssa.proofs.Locally.{waits_locally}
use Rattle.clif_ssa.proofs.StructuredUses.{waits_used}
use Rattle.clif_ssa.proofs.Tracks.{tracks_none, tracks_recorded}
use Rattle.clif_meaning.specs.BranchExamples.{block}
use Rattle.clif_meaning.specs.CallExamples.{i64}
use Rattle.clif_meaning.specs.Examples.{first_signature}
use Rattle.clif_meaning.specs.Request.{AnsweredCall, CreateBlock, DeclareVar, EnsureInsertedBlock, NeedStackMap, OfVariable, SwitchToBlock, UseVar}
use Rattle.clif_simulation.specs.Carries.{Carries}
use Rattle.clif_simulation.specs.TrackedExamples.{doubled}
use Rattle.clif_simulation.proofs.Beginning.{carries_nothing}
use Rattle.clif_simulation.proofs.Building.{carries_plain}
use Rattle.clif_simulation.proofs.Calls.{carries_created, carries_declared, carries_needing, carries_switched, carries_used}
use Rattle.clif_simulation.proofs.Further.{carries_ensured}
use Rattle.clif_standing_laws.specs.MarkedComingExamples.{three_blocks, used_body, used_name, waiting_body, waiting_calls, waiting_state}

-- Consistent --------------------------------------------------------------------------------------------------------------

abbrev empty : Body
empty = empty_body (Testcase (51 ∷ [])) first_signature

empty_is : IsConsistent empty
empty_is = empty_consistent (Testcase (51 ∷ [])) first_signature

one_is : IsConsistent (with_block empty)
one_is = with_block_consistent empty empty_is (omega arith)

two_are : IsConsistent (with_block (with_block empty))
two_are = with_block_consistent (with_block empty) one_is (omega arith)

three_are : IsConsistent three_blocks
three_are = with_block_consistent (with_block (with_block empty)) two_are (omega arith)

-- the layouts are lists of blocks, each once
in_three : (layout : List ℕ) (k : ℕ) → AllByRecursion (λ b. b < 3) layout → k < length layout → slice_index layout k < 3
in_three [] k all below = absurd (omega (arith, below))
in_three (b ∷ layout) zero all below = all.0
in_three (b ∷ layout) (suc k) all below = in_three layout k all.1 (omega (arith, below))

-- blocks in the order of their numbers stand at their numbers
in_order : (j k : ℕ) → j < k → k < 3 → slice_index (0 ∷ 1 ∷ 2 ∷ []) j ≢ slice_index (0 ∷ 1 ∷ 2 ∷ []) k
in_order zero (suc zero) earlier below = λ same. omega (arith, same)
in_order zero (suc (suc zero)) earlier below = λ same. omega (arith, same)
in_order (suc zero) (suc (suc zero)) earlier below = λ same. omega (arith, same)
in_order j (suc (suc (suc k))) earlier below = absurd (omega (arith, below))
in_order j zero earlier below = absurd (omega (arith, earlier))
in_order (suc j) (suc zero) earlier below = absurd (omega (arith, earlier))
in_order (suc (suc j)) (suc (suc zero)) earlier below = absurd (omega (arith, earlier))

abbrev first_body : Body
first_body = inserted_in three_blocks 0

first_is : IsConsistent first_body
first_is =
    with_order_consistent three_blocks (0 ∷ []) three_are (λ k below. in_three (0 ∷ []) k (omega arith, tt) below)
    (λ j k earlier below. absurd (omega (arith, earlier, below)))

abbrev second_body : Body
second_body = inserted_in first_body 1

second_is : IsConsistent second_body
second_is = with_order_consistent first_body (0 ∷ 1 ∷ []) first_is (λ k below. in_three (0 ∷ 1 ∷ []) k (omega arith, (omega arith, tt)) below) once
  where
    once : (j k : ℕ) → j < k → k < 2 → slice_index (0 ∷ 1 ∷ []) j ≢ slice_index (0 ∷ 1 ∷ []) k
    once zero (suc zero) earlier below = λ same. omega (arith, same)
    once j (suc (suc k)) earlier below = absurd (omega (arith, below))
    once j zero earlier below = absurd (omega (arith, earlier))
    once (suc j) (suc zero) earlier below = absurd (omega (arith, earlier))

used_is : IsConsistent used_body
used_is = with_param_consistent second_body 1 i64 second_is (omega arith) (omega arith)

third_is : IsConsistent (inserted_in used_body 2)
third_is =
    with_order_consistent used_body (0 ∷ 1 ∷ 2 ∷ []) used_is
    (λ k below. in_three (0 ∷ 1 ∷ 2 ∷ []) k (omega arith, (omega arith, (omega arith, tt))) below) in_order

pub consistent : IsConsistent waiting_body
consistent =
    with_inst_consistent (inserted_in used_body 2) 2 Back (shape.Binary Iadd (0 ∷ 0 ∷ [])) (i64 ∷ []) 0 third_is (omega arith) tt
    operands_exist (λ k d within. absurd (omega (arith, within))) (λ k d within. absurd (omega (arith, within)))
    (λ k d within. absurd (omega (arith, within))) (λ leads. absurd (leads refl)) (omega arith) (omega arith)
  where
    operands_exist : (k : ℕ) → k < 2 → slice_index (0 ∷ 0 ∷ []) k < 1
    operands_exist zero below = omega arith
    operands_exist (suc zero) below = omega arith
    operands_exist (suc (suc k)) below = absurd (omega (arith, below))

-- Carried -----------------------------------------------------------------------------------------------------------------

abbrev one_call : List AnsweredCall
one_call = record { request = CreateBlock; numbers = 0 ∷ [] } ∷ []

abbrev two_calls : List AnsweredCall
two_calls = one_call ++ record { request = CreateBlock; numbers = 1 ∷ [] } ∷ []

abbrev three_calls : List AnsweredCall
three_calls = two_calls ++ record { request = CreateBlock; numbers = 2 ∷ [] } ∷ []

abbrev four_calls : List AnsweredCall
four_calls = three_calls ++ record { request = DeclareVar i64; numbers = 0 ∷ [] } ∷ []

abbrev five_calls : List AnsweredCall
five_calls = four_calls ++ record { request = NeedStackMap (OfVariable 0); numbers = [] } ∷ []

abbrev six_calls : List AnsweredCall
six_calls = five_calls ++ record { request = SwitchToBlock (block 0); numbers = [] } ∷ []

abbrev seven_calls : List AnsweredCall
seven_calls = six_calls ++ record { request = EnsureInsertedBlock; numbers = [] } ∷ []

abbrev eight_calls : List AnsweredCall
eight_calls = seven_calls ++ record { request = SwitchToBlock (block 1); numbers = [] } ∷ []

abbrev nine_calls : List AnsweredCall
nine_calls = eight_calls ++ record { request = UseVar 0; numbers = 0 ∷ [] } ∷ []

abbrev ten_calls : List AnsweredCall
ten_calls = nine_calls ++ record { request = SwitchToBlock (block 2); numbers = [] } ∷ []

one : Carries one_call (with_block empty) no_state
one = carries_created [] empty no_state (carries_nothing (Testcase (51 ∷ [])) first_signature) no_state (0 ∷ []) refl (λ x b. refl) (λ b. refl) (λ b. refl) refl

two : Carries two_calls (with_block (with_block empty)) no_state
two = carries_created one_call (with_block empty) no_state one no_state (1 ∷ []) refl (λ x b. refl) (λ b. refl) (λ b. refl) refl

three : Carries three_calls three_blocks no_state
three = carries_created two_calls (with_block (with_block empty)) no_state two no_state (2 ∷ []) refl (λ x b. refl) (λ b. refl) (λ b. refl) refl

four : Carries four_calls three_blocks no_state
four = carries_declared three_calls three_blocks no_state three i64 (0 ∷ [])

-- the variable is marked
abbrev marked_state : SsaState
marked_state = record no_state { tracking = sets (0 ∷ []) [] }

five : Carries five_calls three_blocks marked_state
five =
    carries_needing four_calls three_blocks no_state four marked_state (OfVariable 0) (λ x b. refl) (λ b. refl) (λ b. refl)
    (record_at-empty 0, refl)

six : Carries six_calls three_blocks marked_state
six = carries_switched five_calls three_blocks marked_state five (block 0) []

seven : Carries seven_calls first_body marked_state
seven = carries_ensured six_calls three_blocks marked_state six 0 (block 0) (record { current = refl; named = refl })

eight : Carries eight_calls first_body marked_state
eight = carries_switched seven_calls first_body marked_state seven (block 1) []

-- A parameter waits for the variable, which is recorded.
none_recorded : (x b : ℕ) → record_of marked_state x b ≡ None
none_recorded = record_at-empty

records : Records marked_state waiting_state 0 1 0
records = record_at-insert map.empty 0 1 (record { value = Some 0; lookups = 0 })

waiting : (b : ℕ) → sealed_of waiting_state b
    ≡ (if b == 1 then No (pending_of (sealed_of marked_state b) ++ record { variable = 0; param = 0 } ∷ []) else sealed_of marked_state b)
waiting zero = refl
waiting (suc zero) = refl
waiting (suc (suc b)) = rw (other b) refl
  where
    other : (b : ℕ) → (suc (suc b) == 1) ≡ false
    other b = grind (arith, nat_tests)

waits : Waits marked_state waiting_state second_body used_body 0 i64 1
waits = record { function = refl; recorded = records; tracking = refl; waiting = waiting }

same_leads : SamePredecessors marked_state waiting_state
same_leads zero = refl
same_leads (suc zero) = refl
same_leads (suc (suc b)) = refl

pub unsealed : (b : ℕ) → is_yes (sealed_of waiting_state b) ≡ false
unsealed zero = refl
unsealed (suc zero) = refl
unsealed (suc (suc b)) = refl

none_some : (v : ℕ) → None ≡ Some v → ⊥
none_some v is = cc

tracks : TracksMade 0 marked_state waiting_state
tracks =
    tracks_recorded 0 marked_state marked_state waiting_state 0 1 0 (omega arith) (none_recorded 0 1) records refl
    (tracks_none 0 marked_state (λ x b v is. absurd (none_some v (sym (none_recorded x b) ∙ is))))

nine : Carries nine_calls used_body waiting_state
nine =
    carries_used eight_calls first_body marked_state eight first_is 1 (block 1) (record { current = refl; named = refl }) refl
    used_body waiting_state 0 0 i64 refl
    (λ own tables before.
    waits_locally own second_body used_body marked_state waiting_state tables 0 i64 1 (firm_from second_body second_is) before.0 before.2 before.1
    (omega arith) (none_recorded 0 1) refl waits same_leads)
    (λ types own same before.
    (waits_used types own second_body used_body marked_state waiting_state 0 i64 1 (sym same) (firm_from second_body second_is) (housed_from second_body second_is)
    (omega arith) (none_recorded 0 1) refl waits same_leads before).structured)
    (param_constructs second_body 1 i64) refl same_leads unsealed (omega arith, refl) used_is tracks
    (λ x b value is. absurd (none_some value (sym (none_recorded x b) ∙ is)))

ten : Carries ten_calls used_body waiting_state
ten = carries_switched nine_calls used_body waiting_state nine (block 2) []

pub carried : Carries waiting_calls waiting_body waiting_state
carried =
    carries_plain ten_calls used_body waiting_state ten used_is 2 (block 2) (record { current = refl; named = refl }) refl (omega arith)
    (shape.Binary Iadd (0 ∷ 0 ∷ [])) [] (doubled used_name) 0 (0 ∷ 1 ∷ [])
    (record { operation = refl; arguments = refl; no_edges = refl; edges = refl; contexts_same = refl; values = (refl, (refl, tt)); contexts_earlier = tt })
    (i64 ∷ []) refl refl numbered refl
  where
    numbered : (k : ℕ) → k < 1 → slice_get (0 ∷ 1 ∷ []) (suc k) ≡ Some (1 + k)
    numbered zero below = refl
    numbered (suc k) below = absurd (omega (arith, below))
