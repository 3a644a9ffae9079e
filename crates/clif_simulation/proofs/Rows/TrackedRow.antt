-- The function of the worked example with a tracked parameter carries its calls and reads right.
use Rattle.std.proofs.Common.{◌≡◌, ◌⊎◌, ℕ, zero, suc, ◌+◌, ◌<◌, false, List, [], ◌∷◌, slice_get, Some, Contains, inl, inr, refl, sym, ◌∙◌, subst, arith}
use Rattle.std.specs.Prelude.{All, slice_index}
use Rattle.std.specs.List.{AllByRecursion}
use Rattle.clif_instructions.specs.Instruction.{AFunctionRef}
use Rattle.clif_instructions.specs.declared.insert_at.InsertAt.TheVariants.{Back}
use Rattle.clif_instructions.specs.declared.instructions.InstructionData.TheVariants as shape
use Rattle.clif_opcodes.specs.declared.opcodes.BinaryOpcode.TheVariants.{Iadd}
use Rattle.clif_ir.specs.Body.{follow}
use Rattle.clif_ir.specs.Changes.{inserted_in, with_block}
use Rattle.clif_ir.specs.Consistent.{EntryExists, IsConsistent}
use Rattle.clif_ir.proofs.KeepsInst.{with_inst_consistent}
use Rattle.clif_ir.proofs.KeepsParam.{with_param_consistent}
use Rattle.clif_ir.proofs.KeepsPlaces.{with_order_consistent}
use Rattle.clif_ssa.specs.Ssa.{no_state}
use Rattle.clif_meaning.specs.BranchExamples.{block}
use Rattle.clif_meaning.specs.CallExamples.{i64}
use Rattle.clif_meaning.specs.Examples.{i32}
use Rattle.clif_meaning.specs.Request.{AnsweredCall, AppendFunctionParams, Build, CreateBlock, SwitchToBlock, script_of}
use Rattle.clif_meaning.specs.Name.{Name, same_name}
use Rattle.clif_meaning.specs.Ledger.{ledger_after}
use Rattle.clif_meaning.specs.Path.{Leads, Place}
use Rattle.clif_meaning.specs.Premises.{IsItemWellTyped}
use Rattle.clif_meaning.specs.Program.{Item}
use Rattle.clif_meaning.specs.WellPlaced.{Code, IsGivenAlong, IsGivenBefore, given_on_entry, item_names, item_passes, program_code}
use Rattle.clif_meaning.specs.World.{World}
use Rattle.clif_tables.specs.Callees.{types_of}
use Rattle.clif_meaning.proofs.FirstRow.{first_of_one}
use Rattle.clif_meaning.proofs.StraightLine.{none_of, nothing_contained}
use Rattle.clif_simulation.specs.Tables.{program_so_far}
use Rattle.clif_simulation.proofs.Finished.Giving.{contained_in}
use Rattle.clif_simulation.proofs.Loops.LoopWaiting.{nothing_at, of_one_block}
use Rattle.clif_simulation.proofs.Unfinished.SoFar.{typed_so_far}
use Rattle.clif_meaning.proofs.SampleWorld
use Rattle.clif_simulation.specs.CallCarryingExamples.{call_instruction, empty_calling}
use Rattle.clif_simulation.specs.Carries.{Carries}
use Rattle.clif_simulation.specs.Interrupted.{ReadsRight}
use Rattle.clif_simulation.specs.Reading.{PremisesSoFar, may_grow}
use Rattle.clif_simulation.specs.TrackedExamples.{BothMove, block_of_tracked, called_body, doubled, first_parameter, tracked_body, tracked_calls, tracked_signature}
use Rattle.clif_simulation.proofs.Building.{carries_plain}
use Rattle.clif_simulation.proofs.Rows.CallRow
use Rattle.clif_simulation.proofs.Rows.CallRow.{one_call}
use Rattle.clif_simulation.proofs.Calls.{carries_switched}
use Rattle.clif_simulation.proofs.Unfinished.OpenReading
use Rattle.clif_simulation.proofs.ParameterCalls.{carries_params}

-- Consistent --------------------------------------------------------------------------------------------------------------

block_consistent : IsConsistent block_of_tracked
block_consistent = with_param_consistent (with_block (empty_calling tracked_signature)) 0 i64 (CallRow.block_consistent tracked_signature) (omega arith) (omega arith)

inserted_consistent : IsConsistent (inserted_in block_of_tracked 0)
inserted_consistent = with_order_consistent block_of_tracked (0 ∷ []) block_consistent within (λ j k earlier below. absurd (omega (arith, earlier, below)))
  where
    within : (k : ℕ) → k < 1 → slice_index (0 ∷ []) k < 1
    within zero below = omega arith
    within (suc k) below = absurd (omega (arith, below))

called_consistent : IsConsistent called_body
called_consistent =
    with_inst_consistent (inserted_in block_of_tracked 0) 0 Back (shape.Call 0 []) (i32 ∷ []) 0 inserted_consistent (omega arith) tt
    (λ k below. absurd (omega (arith, below))) (λ k d within. absurd (omega (arith, within))) (λ k d within. absurd (omega (arith, within))) entries (λ leads. absurd (leads refl)) (omega arith) (omega arith)
  where
    entries : All (EntryExists block_of_tracked.tables) (AFunctionRef 0 ∷ [])
    entries zero d within = omega arith
    entries (suc k) d within = absurd (omega (arith, within))

consistent : IsConsistent tracked_body
consistent =
    with_inst_consistent called_body 0 Back (shape.Binary Iadd (0 ∷ 0 ∷ [])) (i64 ∷ []) 0 called_consistent (omega arith) tt
    operands_exist (λ k d within. absurd (omega (arith, within))) (λ k d within. absurd (omega (arith, within))) (λ k d within. absurd (omega (arith, within))) (λ leads. absurd (leads refl)) (omega arith) (omega arith)
  where
    operands_exist : (k : ℕ) → k < 2 → slice_index (0 ∷ 0 ∷ []) k < 2
    operands_exist zero below = omega arith
    operands_exist (suc zero) below = omega arith
    operands_exist (suc (suc k)) below = absurd (omega (arith, below))

-- Carried -----------------------------------------------------------------------------------------------------------------

abbrev parameter_call : AnsweredCall
parameter_call = record { request = AppendFunctionParams (block 0) (i64 ∷ []); numbers = 0 ∷ [] }

abbrev two_calls : List AnsweredCall
two_calls = record { request = CreateBlock; numbers = 0 ∷ [] } ∷ parameter_call ∷ []

abbrev three_calls : List AnsweredCall
three_calls = record { request = CreateBlock; numbers = 0 ∷ [] } ∷ parameter_call ∷ record { request = SwitchToBlock (block 0); numbers = [] } ∷ []

abbrev four_calls : List AnsweredCall
four_calls =
    record { request = CreateBlock; numbers = 0 ∷ [] } ∷ parameter_call ∷ record { request = SwitchToBlock (block 0); numbers = [] }
    ∷ record { request = Build [] call_instruction; numbers = 0 ∷ 1 ∷ [] } ∷ []

with_parameter : Carries two_calls block_of_tracked no_state
with_parameter =
    carries_params one_call (with_block (empty_calling tracked_signature)) no_state (CallRow.created tracked_signature) (CallRow.block_consistent tracked_signature)
    0 (block 0) refl (omega arith) refl (i64 ∷ []) parameter_call (inr refl) refl

switched : Carries three_calls block_of_tracked no_state
switched = carries_switched two_calls block_of_tracked no_state with_parameter (block 0) []

called : Carries four_calls called_body no_state
called =
    carries_plain three_calls block_of_tracked no_state switched block_consistent 0 (block 0) (record { current = refl; named = refl }) refl (omega arith)
    (shape.Call 0 []) [] call_instruction 0 (0 ∷ 1 ∷ [])
    (record { operation = refl; arguments = refl; no_edges = refl; edges = refl; contexts_same = refl; values = tt; contexts_earlier = tt }) (i32 ∷ []) refl refl numbered refl
  where
    numbered : (k : ℕ) → k < 1 → slice_get (0 ∷ 1 ∷ []) (suc k) ≡ Some (1 + k)
    numbered zero below = refl
    numbered (suc k) below = absurd (omega (arith, below))

pub carried : Carries tracked_calls tracked_body no_state
carried =
    carries_plain four_calls called_body no_state called called_consistent 0 (block 0) (record { current = refl; named = refl }) refl (omega arith)
    (shape.Binary Iadd (0 ∷ 0 ∷ [])) [] (doubled first_parameter) 0 (1 ∷ 2 ∷ [])
    (record { operation = refl; arguments = refl; no_edges = refl; edges = refl; contexts_same = refl; values = (refl, (refl, tt)); contexts_earlier = tt })
    (i64 ∷ []) refl refl numbered refl
  where
    numbered : (k : ℕ) → k < 1 → slice_get (1 ∷ 2 ∷ []) (suc k) ≡ Some (2 + k)
    numbered zero below = refl
    numbered (suc k) below = absurd (omega (arith, below))

pub reads_right : ReadsRight tracked_calls tracked_signature tracked_body no_state
reads_right = OpenReading.reads_right tracked_calls tracked_signature tracked_body no_state (may_grow tracked_calls) consistent carried (λ b name named grows. inl refl)

-- The premises ------------------------------------------------------------------------------------------------------------

abbrev items : Name → List Item
items name = (program_so_far tracked_calls).items name

elsewhere : (name : Name) → same_name name (block 0) ≡ false → items name ≡ []
elsewhere name other = rw other refl

each_items : (P : List Item → Type 0) → P [] → P (items (block 0)) → (name : Name) → P (items name)
each_items P none = of_one_block items (block 0) elsewhere (λ name list. P list) (λ name. none)

-- the sum alone names anything: the parameter
record IsNamed (q : Place Name) (x : Name) : Type 0 where
  here : q.block ≡ block 0
  index : q.index ≡ 1
  is : x ≡ first_parameter

one_of_two : (x : Name) → Contains (first_parameter ∷ first_parameter ∷ []) x → x ≡ first_parameter
one_of_two x there = by (contained_in (first_parameter ∷ first_parameter ∷ []) x there)
  where
    by : (x ≡ first_parameter) ⊎ ((x ≡ first_parameter) ⊎ ⊥) → x ≡ first_parameter
    by (inl same) = same
    by (inr (inl same)) = same
    by (inr (inr none)) = absurd none

-- what an item of these names, at this place of this block
abbrev Names : Name → Name → List Item → Type 0
Names x name list = (k : ℕ) → Contains (item_names (slice_get list k)) x → (name ≡ block 0) × (k ≡ 1) × (x ≡ first_parameter)

is_named : (q : Place Name) (x : Name) → Contains (item_names (slice_get (items q.block) q.index)) x → IsNamed q x
is_named q x there =
    let found = of_one_block items (block 0) elsewhere (Names x) (λ name. nowhere name) of_entry q.block q.index there in
    record { here = found.0; index = found.1; is = found.2 }
  where
    of_entry : Names x (block 0) (items (block 0))
    of_entry zero named = absurd (nothing_contained x named)
    of_entry (suc zero) named = (refl, refl, one_of_two x named)
    of_entry (suc (suc zero)) named = absurd (nothing_contained x named)
    of_entry (suc (suc (suc k))) named = absurd (nothing_contained x named)

    nowhere : (name : Name) → Names x name []
    nowhere name zero named = absurd (nothing_contained x named)
    nowhere name (suc k) named = absurd (nothing_contained x named)

abbrev code : Code Name Name
code = program_code (program_so_far tracked_calls)

named_before : (q : Place Name) (x : Name) → IsNamed q x → IsGivenBefore code x q
named_before q x named [] walk = absurd (omega (arith, named.index, walk.1))
named_before q x named (p ∷ path) walk = by walk.0
  where
    given : (block_is : p.block ≡ block 0) → p.index ≡ 0 → Contains (given_on_entry code p.block p.index) x
    given block_is index_is =
        subst (λ (b : Name). Contains (given_on_entry code b p.index) x) (sym block_is)
        (subst (λ (k : ℕ). Contains (given_on_entry code (block 0) k) x) (sym index_is) (first_of_one first_parameter x (sym named.is)))

    by : Leads code.flow p q → Contains (given_on_entry code q.block q.index) x ⊎ IsGivenAlong code x (p ∷ path)
    by (inl next) = inr (inr (inl (given (sym next.0 ∙ named.here) (omega (arith, named.index, next.1)))))
    by (inr edge) = absurd (omega (arith, named.index, edge.1))

pub premises : PremisesSoFar (may_grow tracked_calls) tracked_calls tracked_signature
premises = record {
  well_typed = typed_so_far (may_grow tracked_calls) (ledger_after (script_of tracked_calls)) (program_so_far tracked_calls) tracked_signature (record {
    items = each_items
        (AllByRecursion (IsItemWellTyped (ledger_after (script_of tracked_calls)) (program_so_far tracked_calls) (types_of tracked_signature.returns))) tt
        (record { made_at = refl; operands = (tt, refl); edges = tt }, (record { made_at = refl; operands = (refl, (refl, tt)); edges = tt }, tt));
    entry = refl;
  });
  given_before = record {
    named = λ q x there. named_before q x (is_named q x there);
    passed = λ q x there.
        absurd (none_of (item_passes (slice_get (items q.block) q.index)) x
        (nothing_at item_passes refl (items q.block) q.index (each_items (AllByRecursion (λ item. item_passes (Some item) ≡ [])) tt (refl, (refl, tt)) q.block)) there);
  };
}

-- A run -------------------------------------------------------------------------------------------------------------------

abbrev passing : World
passing = record SampleWorld.sample_world { arguments = 64 ∷ [] }

pub both_move : (world : World) × BothMove world
unfolding follow
both_move = (passing, record { by_script = refl; by_function = refl; forgotten = refl })
