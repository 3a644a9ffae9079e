-- A block that only an edge that may still come reaches is read along that edge.
use Rattle.std.proofs.Common.{◌≡◌, ◌≢◌, ℕ, zero, suc, ◌+◌, ◌<◌, false, List, [], ◌∷◌, drop, map, flat_map, length, slice_get, Option, Some, None, Contains, inl, inr, ◌⊎◌, refl, sym, ◌∙◌, ap, subst, arith}
use Rattle.std.specs.Prelude.{pos}
use Rattle.std.specs.List.{AllByRecursion}
use Rattle.clif_types.specs.declared.extname.UserFuncName.TheVariants.{Testcase}
use Rattle.clif_types.specs.declared.target.PointerWidth.TheVariants.{U64}
use Rattle.clif_instructions.specs.declared.instructions.InstructionData.TheVariants.{UnaryImm}
use Rattle.clif_ir.specs.Body.{Body, empty_body}
use Rattle.clif_ir.specs.Changes.{with_block}
use Rattle.clif_ir.specs.Consistent.{IsConsistent}
use Rattle.clif_ir.proofs.KeepsBlock.{with_block_consistent}
use Rattle.clif_ir.proofs.Linking.{empty_consistent}
use Rattle.clif_ssa.specs.Ssa.{no_state}
use Rattle.clif_meaning.specs.Name.{Name, answer_of, same_name}
use Rattle.clif_meaning.specs.Request.{CreateBlock, SwitchToBlock, EnsureInsertedBlock, AnsweredCall}
use Rattle.clif_meaning.specs.Examples.{i32, first_signature}
use Rattle.clif_meaning.specs.BranchExamples.{block}
use Rattle.clif_simulation.specs.Carries.{Carries}
use Rattle.clif_simulation.specs.ComingExamples.{second_body, second_calls, two_blocks}
use Rattle.clif_simulation.proofs.Beginning.{carries_nothing}
use Rattle.clif_simulation.proofs.Building.{carries_plain}
use Rattle.clif_simulation.proofs.Calls.{carries_created, carries_switched}
use Rattle.clif_simulation.proofs.Further.{carries_ensured}
use Rattle.std.specs.Prelude.{slice_index}
use Rattle.clif_ir.specs.Changes.{inserted_in}
use Rattle.clif_instructions.specs.declared.insert_at.InsertAt.TheVariants.{Back}
use Rattle.clif_ir.proofs.KeepsInst.{with_inst_consistent}
use Rattle.clif_ir.proofs.KeepsPlaces.{with_order_consistent}
use Rattle.clif_meaning.specs.Instruction.{Compute, Iconst}
use Rattle.clif_meaning.specs.Program.{Item, Instruct}
use Rattle.clif_simulation.specs.Tables.{answered, block_name, program_so_far}
use Rattle.clif_simulation.specs.Reading.{behind, may_grow, script_run_so_far, WellTypedSoFar}
use Rattle.clif_simulation.specs.Coming.{Arrival, MayCome, ReadsRightComing, coming_script}
use Rattle.clif_simulation.specs.ComingExamples.{comes_there, to_second}
use Rattle.clif_simulation.proofs.NameLists.{only_one, same_name_cases}
use Rattle.clif_simulation.proofs.Unfinished.OpenReading
use Rattle.clif_records.specs.Tables.{is_yes}
use Rattle.clif_ssa.specs.Ssa.{sealed_of}
use Rattle.clif_meaning.specs.Request.{script_of}
use Rattle.clif_meaning.specs.Ledger.{ledger_after}
use Rattle.clif_meaning.specs.Path.{Place}
use Rattle.clif_meaning.specs.WellPlaced.{item_at, item_names, item_passes}
use Rattle.clif_meaning.specs.Premises.{EachItem, IsItemWellTyped}
use Rattle.clif_tables.specs.Callees.{types_of}
use Rattle.clif_meaning.specs.Event.{CallShape}
use Rattle.clif_meaning.specs.FunctionMachine.{ByMaps}
use Rattle.clif_meaning.specs.FunctionView.{Placed}
use Rattle.clif_meaning.specs.Headline.{IsWorldOf}
use Rattle.clif_meaning.specs.Machine.{Control, state_after}
use Rattle.clif_meaning.specs.View.{block_of, view_of}
use Rattle.clif_simulation.specs.Interrupted.{without_arguments, StandsBefore}
use Rattle.clif_simulation.specs.Carries as carries
use Rattle.clif_simulation.proofs.Rows.HalfRow.{of_operation}
use Rattle.clif_simulation.proofs.Rows.NothingCalled.{nothing_called}
use Rattle.clif_simulation.proofs.Unfinished.SoFar.{typed_so_far}
use Rattle.clif_meaning.specs.World.{World}
use Rattle.clif_meaning.proofs.SampleWorld
use Rattle.clif_meaning.proofs.StraightLine.{none_of}

abbrev empty : Body
empty = empty_body (Testcase (50 ∷ [])) first_signature

empty_is_consistent : IsConsistent empty
empty_is_consistent = empty_consistent (Testcase (50 ∷ [])) first_signature

one_is_consistent : IsConsistent (with_block empty)
one_is_consistent = with_block_consistent empty empty_is_consistent (omega arith)

both_are_consistent : IsConsistent (with_block (with_block empty))
both_are_consistent = with_block_consistent (with_block empty) one_is_consistent (omega arith)

abbrev one_call : List AnsweredCall
one_call = record { request = CreateBlock; numbers = 0 ∷ [] } ∷ []

abbrev two_calls : List AnsweredCall
two_calls = record { request = CreateBlock; numbers = 0 ∷ [] } ∷ record { request = CreateBlock; numbers = 1 ∷ [] } ∷ []

abbrev three_calls : List AnsweredCall
three_calls = record { request = CreateBlock; numbers = 0 ∷ [] } ∷ record { request = CreateBlock; numbers = 1 ∷ [] } ∷ record { request = SwitchToBlock (block 0); numbers = [] } ∷ []

abbrev four_calls : List AnsweredCall
four_calls =
    record { request = CreateBlock; numbers = 0 ∷ [] } ∷ record { request = CreateBlock; numbers = 1 ∷ [] } ∷ record { request = SwitchToBlock (block 0); numbers = [] }
    ∷ record { request = EnsureInsertedBlock; numbers = [] } ∷ []

abbrev five_calls : List AnsweredCall
five_calls =
    record { request = CreateBlock; numbers = 0 ∷ [] } ∷ record { request = CreateBlock; numbers = 1 ∷ [] } ∷ record { request = SwitchToBlock (block 0); numbers = [] }
    ∷ record { request = EnsureInsertedBlock; numbers = [] } ∷ record { request = SwitchToBlock (block 1); numbers = [] } ∷ []

one : Carries one_call (with_block empty) no_state
one = carries_created [] empty no_state (carries_nothing (Testcase (50 ∷ [])) first_signature) no_state (0 ∷ []) refl (λ x b. refl) (λ b. refl) (λ b. refl) refl

two : Carries two_calls (with_block (with_block empty)) no_state
two = carries_created one_call (with_block empty) no_state one no_state (1 ∷ []) refl (λ x b. refl) (λ b. refl) (λ b. refl) refl

three : Carries three_calls (with_block (with_block empty)) no_state
three = carries_switched two_calls (with_block (with_block empty)) no_state two (block 0) []

four : Carries four_calls two_blocks no_state
four = carries_ensured three_calls (with_block (with_block empty)) no_state three 0 (block 0) (record { current = refl; named = refl })

five : Carries five_calls two_blocks no_state
five = carries_switched four_calls two_blocks no_state four (block 1) []

-- the layouts are lists of blocks, each once
in_two : (layout : List ℕ) (k : ℕ) → AllByRecursion (λ b. b < 2) layout → k < length layout → slice_index layout k < 2
in_two [] k all below = absurd (omega (arith, below))
in_two (b ∷ layout) zero all below = all.0
in_two (b ∷ layout) (suc k) all below = in_two layout k all.1 (omega (arith, below))

two_consistent : IsConsistent two_blocks
two_consistent =
    with_order_consistent (with_block (with_block empty)) (0 ∷ []) both_are_consistent (λ k below. in_two (0 ∷ []) k (omega arith, tt) below)
    (λ j k earlier below. absurd (omega (arith, earlier, below)))

both_consistent : IsConsistent (inserted_in two_blocks 1)
both_consistent = with_order_consistent two_blocks (0 ∷ 1 ∷ []) two_consistent (λ k below. in_two (0 ∷ 1 ∷ []) k (omega arith, (omega arith, tt)) below) once
  where
    once : (j k : ℕ) → j < k → k < 2 → slice_index (0 ∷ 1 ∷ []) j ≢ slice_index (0 ∷ 1 ∷ []) k
    once zero zero earlier below = absurd (omega (arith, earlier))
    once zero (suc zero) earlier below = λ same. zero_one same
      where
        zero_one : ◌≡◌ {A = ℕ} 0 1 → ⊥
        zero_one h = cc
    once (suc j) (suc zero) earlier below = absurd (omega (arith, earlier))
    once (suc j) zero earlier below = absurd (omega (arith, earlier))
    once j (suc (suc k)) earlier below = absurd (omega (arith, below))

pub consistent : (number : ℕ) → IsConsistent (second_body number)
consistent number =
    with_inst_consistent (inserted_in two_blocks 1) 1 Back (UnaryImm (pos number)) (i32 ∷ []) 0 both_consistent (omega arith) tt
    (λ k below. absurd (omega (arith, below))) (λ k d within. absurd (omega (arith, within))) (λ k d within. absurd (omega (arith, within))) (λ k d within. absurd (omega (arith, within))) (λ leads. absurd (leads refl)) (omega arith) (omega arith)

pub carried : Carries second_calls (second_body 7) no_state
carried =
    carries_plain five_calls two_blocks no_state five two_consistent 1 (block 1) (record { current = refl; named = refl }) refl (omega arith)
    (UnaryImm (pos 7)) [] (record { operation = Compute (Iconst (pos 7)); controlling = i32; operands = []; contexts = []; edges = [] }) 0 (0 ∷ 0 ∷ [])
    (record { operation = refl; arguments = refl; no_edges = refl; edges = refl; contexts_same = refl; values = tt; contexts_earlier = tt }) (i32 ∷ []) refl refl numbered refl
  where
    numbered : (k : ℕ) → k < 1 → slice_get (0 ∷ 0 ∷ []) (suc k) ≡ Some (0 + k)
    numbered zero below = refl
    numbered (suc k) below = absurd (omega (arith, below))

-- The premises ------------------------------------------------------------------------------------------------------------

abbrev constant : Item
constant = Instruct 5 (record { operation = Compute (Iconst (pos 7)); controlling = i32; operands = []; contexts = []; edges = [] }) (answer_of 5 1 ∷ [])

-- only the second block has an item
items_are : (name : Name) → ((program_so_far second_calls).items name ≡ []) ⊎ ((name ≡ block 1) × ((program_so_far second_calls).items name ≡ constant ∷ []))
items_are name = by (same_name_cases name (block 1))
  where
    by : (name ≡ block 1) ⊎ ((name ≢ block 1) × (same_name name (block 1) ≡ false)) → ((program_so_far second_calls).items name ≡ []) ⊎ ((name ≡ block 1) × ((program_so_far second_calls).items name ≡ constant ∷ []))
    by (inl same) = inr (same, ap (program_so_far second_calls).items same)
    by (inr other) = inl (rw other.1 refl)

nothing_at : (of : Option Item → List Name) → of None ≡ [] → of (Some constant) ≡ [] → (p : Place Name) (x : Name) → Contains (of (item_at (program_so_far second_calls) p)) x → ⊥
nothing_at of none of_constant p x there = none_of (of (item_at (program_so_far second_calls) p)) x (by (items_are p.block)) there
  where
    of_list : (k : ℕ) → of (slice_get (constant ∷ []) k) ≡ []
    of_list zero = of_constant
    of_list (suc k) = none

    by : ((program_so_far second_calls).items p.block ≡ []) ⊎ ((p.block ≡ block 1) × ((program_so_far second_calls).items p.block ≡ constant ∷ []))
        → of (item_at (program_so_far second_calls) p) ≡ []
    by (inl empty_there) = ap (λ (items : List Item). of (slice_get items p.index)) empty_there ∙ none
    by (inr second) = ap (λ (items : List Item). of (slice_get items p.index)) second.1 ∙ of_list p.index

to_second_only : (from target : Name) → Contains (to_second from) target → (from ≡ block 0) × (target ≡ block 1)
to_second_only from target there = by (same_name_cases from (block 0))
  where
    by : (from ≡ block 0) ⊎ ((from ≢ block 0) × (same_name from (block 0) ≡ false)) → (from ≡ block 0) × (target ≡ block 1)
    by (inl same) = (same, sym (only_one (block 1) target (subst (λ (name : Name). Contains (to_second name) target) same there)))
    by (inr other) = absurd (none_of (to_second from) target (rw other.1 refl) there)

pub may_come : MayCome to_second second_calls no_state
may_come = record {
  blocks = λ from target there. ap (λ (name : Name). block_name second_calls (answered second_calls name)) (to_second_only from target there).1 ∙ ap Some (sym (to_second_only from target there).1);
  unsealed = λ from target there. ap (λ (name : Name). is_yes (sealed_of no_state (answered second_calls name))) (to_second_only from target there).1;
  given_before = record {
    named = λ p x there. absurd (nothing_at item_names refl refl p x there);
    passed = λ p x there. absurd (nothing_at item_passes refl refl p x there);
  };
}

pub comes : (world : World)
    → (state_after (coming_script to_second comes_there second_calls no_state (λ entries x. 0) 0 (block 0)
    (script_run_so_far second_calls (second_body 7) world (λ x. false))) 1).place ≡ behind (block 1) 0
comes world = refl

-- each block is unsealed
unsealed : (b : ℕ) → is_yes (sealed_of no_state b) ≡ false
unsealed b = refl

pub reads_right : ReadsRightComing (may_grow second_calls) second_calls first_signature (second_body 7) no_state
reads_right =
    OpenReading.reads_right_coming second_calls first_signature (second_body 7) no_state (may_grow second_calls) (consistent 7) carried (λ b name named grows. inl (unsealed b))

-- Another constant ----------------------------------------------------------------------------------------------------------

abbrev IsTyped : Item → Type 0
IsTyped = IsItemWellTyped (ledger_after (script_of second_calls)) (program_so_far second_calls) (types_of first_signature.returns)

typed : WellTypedSoFar (may_grow second_calls) (ledger_after (script_of second_calls)) (program_so_far second_calls) first_signature
typed = typed_so_far (may_grow second_calls) (ledger_after (script_of second_calls)) (program_so_far second_calls) first_signature (record { items = each; entry = refl })
  where
    each : EachItem IsTyped (program_so_far second_calls)
    each name = by (items_are name)
      where
        by : ((program_so_far second_calls).items name ≡ []) ⊎ ((name ≡ block 1) × ((program_so_far second_calls).items name ≡ constant ∷ [])) → AllByRecursion IsTyped ((program_so_far second_calls).items name)
        by (inl none) = rw none tt
        by (inr second) = rw second.1 (record { made_at = refl; operands = tt; edges = tt }, tt)

fits : (number : ℕ) → IsWorldOf first_signature (view_of (second_body number)) U64 SampleWorld.sample_world
fits number = record { arguments = tt; pointers = refl; slots = record { aligned = λ s slot h. cc; accessible = λ s slot k h below. cc; within = λ s slot h. cc; apart = λ s t slot other k l h. cc } }

the_second : (b : ℕ) → block_name second_calls b ≡ Some (block 1) → b ≡ 1
the_second zero named = absurd (other named)
  where
    other : Some (block 0) ≡ Some (block 1) → ⊥
    other h = cc
the_second (suc zero) named = refl
the_second (suc (suc b)) named = absurd (none named)
  where
    none : None ≡ Some (block 1) → ⊥
    none h = cc

abbrev constant_of : List Placed → ℕ
constant_of (placed ∷ rest) = of_operation placed.instruction.operation
constant_of [] = 0

refute : (index : ℕ) → map without_arguments (drop index (block_of (second_body 8) 1).items) ≡ map without_arguments (flat_map (carries.carried second_calls) (constant ∷ [])) → ⊥
refute zero same = let h : 8 ≡ 7 = ap constant_of same in omega (arith, h)
refute (suc zero) same = let h : 0 ≡ 7 = ap constant_of same in omega (arith, h)
refute (suc (suc index)) same = let h : 0 ≡ 7 = ap constant_of same in omega (arith, h)

refuted : (b : ℕ) (control : Control Placed) → b ≡ 1 → StandsBefore second_calls (second_body 8) b (constant ∷ []) control → ⊥
refuted b control is at =
    let here = subst (λ (n : ℕ). StandsBefore second_calls (second_body 8) n (constant ∷ []) control) is at in
    refute here.index here.instructions

pub other_constant : ReadsRightComing (may_grow second_calls) second_calls first_signature (second_body 8) no_state → ⊥
other_constant reads =
    let found = reads U64 SampleWorld.sample_world (λ x. false) ByMaps to_second (fits 8) typed may_come (λ entry is sealed. refl)
    (inl (nothing_called (script_of second_calls) refl)) 0 (block 0) refl refl comes_there (λ entries arrival is. branch arrival is) (λ entries x. 0) 1 (constant ∷ []) refl in
    refuted found.block _ (the_second found.block found.named) found.beside.function_at
  where
    branch : (arrival : Arrival) → comes_there 0 ≡ Some arrival → arrival.call ≡ None
    branch arrival is = ap (λ (o : Option Arrival). call_of o) (sym is)
      where
        call_of : Option Arrival → Option CallShape
        call_of None = None
        call_of (Some a) = a.call
