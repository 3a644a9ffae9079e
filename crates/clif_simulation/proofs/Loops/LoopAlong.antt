-- The row `both_arms`, read beside interrupted runs with another record.
use Rattle.std.proofs.Common.{◌≡◌, ℕ, zero, suc, ◌+◌, ◌<◌, false, true, List, [], ◌∷◌, slice_get, Some, Contains, ◌⊎◌, inl, inr, refl, sym, ◌∙◌, ap, subst, arith}
use Rattle.std.specs.List.{AllByRecursion}
use Rattle.clif_types.specs.declared.target.PointerWidth.TheVariants.{U64}
use Rattle.clif_ir.specs.Body.{follow}
use Rattle.clif_tables.specs.Callees.{types_of}
use Rattle.clif_meaning.specs.Name.{Name, answer_of}
use Rattle.clif_meaning.specs.Request.{script_of}
use Rattle.clif_meaning.specs.Ledger.{ledger_after}
use Rattle.clif_meaning.specs.Program.{Item}
use Rattle.clif_meaning.specs.Machine.{Machine, Observation, state_after}
use Rattle.clif_meaning.specs.FunctionMachine.{ByMaps}
use Rattle.clif_meaning.specs.View.{view_of}
use Rattle.clif_meaning.specs.Path.{Place, Leads, IsPath}
use Rattle.clif_meaning.specs.WellPlaced.{Code, item_gives, item_names, item_passes, program_code, IsWellPlaced, IsGivenAlong, IsGivenBefore}
use Rattle.clif_meaning.specs.Premises.{IsItemWellTyped, WellTyped}
use Rattle.clif_meaning.specs.Headline.{IsWorldOf}
use Rattle.clif_meaning.specs.BranchExamples.{block, both_arms_signature}
use Rattle.clif_meaning.proofs.StraightLine.{nothing_contained, none_of}
use Rattle.clif_meaning.proofs.FirstRow.{one_of, first_of_one}
use Rattle.clif_meaning.proofs.SampleWorld
use Rattle.clif_simulation.specs.Tables.{program_so_far}
use Rattle.clif_simulation.proofs.Unfinished.SoFar.{typed_so_far}
use Rattle.clif_simulation.specs.Reading.{code_so_far, behind, may_grow, PremisesSoFar, script_run_so_far, function_run_so_far}
use Rattle.clif_simulation.specs.Interrupted.{Unknowns, ScriptStanding, FunctionStanding, interrupted_script, interrupted_function, StandsBeside, HasBeside, AreOpen, ReadsRight}
use Rattle.clif_simulation.specs.CarryingExamples.{loop_calls, loop_body, loop_state}
use Rattle.clif_simulation.proofs.Rows.RecordsListed.{loop_recording_record}
use Rattle.clif_simulation.specs.InterruptedExamples.{loop_state_recording}
use Rattle.clif_simulation.proofs.Loops.LoopProgram.{each_items_of_row, row_program}
use Rattle.clif_simulation.proofs.FreeEntry.{free_first}
use Rattle.clif_simulation.proofs.Rows.NothingCalled.{nothing_called}

-- What an earlier item of the same block gives is given before: a block is entered at its front.
module _ {Block Thing : Type 0} (code : Code Block Thing) where
  pub given_in_block : (path : List (Place Block)) (q : Place Block) (j : ℕ) (x : Thing)
      → IsPath code.flow (q ∷ path) → j < q.index → Contains (code.gives (record { block = q.block; index = j })) x → IsGivenAlong code x path
  given_in_block [] q j x start below gives = absurd (omega (arith, start.1.0, below))
  given_in_block (p ∷ path) q j x walk below gives = by walk.0 (given_in_block path p j x walk.1)
    where
      order : (j k : ℕ) → j < k + 1 → (j < k) ⊎ (j ≡ k)
      order j k h = grind arith

      next : (b : Block) → q.block ≡ b → Contains (code.gives (record { block = b; index = j })) x
      next b same = subst (λ (b : Block). Contains (code.gives (record { block = b; index = j })) x) same gives

      in_block : (j < p.index → Contains (code.gives (record { block = p.block; index = j })) x → IsGivenAlong code x path)
          → q.block ≡ p.block → (j < p.index) ⊎ (j ≡ p.index) → IsGivenAlong code x (p ∷ path)
      in_block earlier same (inl before) = inr (inr (earlier before (next p.block same)))
      in_block earlier same (inr here) =
          inl (subst (λ (i : ℕ). Contains (code.gives (record { block = p.block; index = i })) x) here (next p.block same))

      by : Leads code.flow p q → (j < p.index → Contains (code.gives (record { block = p.block; index = j })) x → IsGivenAlong code x path)
          → IsGivenAlong code x (p ∷ path)
      by (inl after) earlier = in_block earlier after.0 (order j p.index (omega (arith, below, after.1)))
      by (inr enters) earlier = absurd (omega (arith, below, enters.1.0))

-- The premises ----------------------------------------------------------------------------------------------------------

-- what an item names, an earlier one of the same block gives
abbrev NamesGiven : List Item → Type 0
NamesGiven items = (k : ℕ) (x : Name) → Contains (item_names (slice_get items k)) x → (j : ℕ) × (j < k) × Contains (item_gives (slice_get items j)) x

names_given : (name : Name) → NamesGiven ((program_so_far loop_calls).items name)
names_given = each_items_of_row NamesGiven none first second third fourth
  where
    none : NamesGiven []
    none zero x there = absurd (nothing_contained x there)
    none (suc k) x there = absurd (nothing_contained x there)

    first : NamesGiven ((program_so_far loop_calls).items (block 0))
    first zero x there = absurd (nothing_contained x there)
    first (suc zero) x there = (0, omega arith, first_of_one (answer_of 7 1) x (one_of (answer_of 7 1) x there))
    first (suc (suc zero)) x there = absurd (nothing_contained x there)
    first (suc (suc (suc zero))) x there = absurd (nothing_contained x there)
    first (suc (suc (suc (suc k)))) x there = absurd (nothing_contained x there)

    second : NamesGiven ((program_so_far loop_calls).items (block 1))
    second zero x there = absurd (nothing_contained x there)
    second (suc zero) x there = (0, omega arith, first_of_one (answer_of 11 0) x (one_of (answer_of 11 0) x there))
    second (suc (suc zero)) x there = absurd (nothing_contained x there)
    second (suc (suc (suc k))) x there = absurd (nothing_contained x there)

    two : (x : Name) → Contains (answer_of 15 0 ∷ answer_of 16 1 ∷ []) x → (answer_of 15 0 ≡ x) ⊎ (answer_of 16 1 ≡ x)
    two x (zero, below, here) = inl here
    two x (suc zero, below, here) = inr here
    two x (suc (suc k), below, here) = absurd (omega (arith, below))

    of_two : (x : Name) → (answer_of 15 0 ≡ x) ⊎ (answer_of 16 1 ≡ x) → (j : ℕ) × (j < 2) × Contains (item_gives (slice_get ((program_so_far loop_calls).items (block 2)) j)) x
    of_two x (inl here) = (0, omega arith, first_of_one (answer_of 15 0) x here)
    of_two x (inr here) = (1, omega arith, first_of_one (answer_of 16 1) x here)

    third : NamesGiven ((program_so_far loop_calls).items (block 2))
    third zero x there = absurd (nothing_contained x there)
    third (suc zero) x there = absurd (nothing_contained x there)
    third (suc (suc zero)) x there = of_two x (two x there)
    third (suc (suc (suc zero))) x there = (2, omega arith, first_of_one (answer_of 17 1) x (one_of (answer_of 17 1) x there))
    third (suc (suc (suc (suc zero)))) x there = (2, omega arith, first_of_one (answer_of 17 1) x (one_of (answer_of 17 1) x there))
    third (suc (suc (suc (suc (suc zero))))) x there = absurd (nothing_contained x there)
    third (suc (suc (suc (suc (suc (suc k)))))) x there = absurd (nothing_contained x there)

    fourth : NamesGiven ((program_so_far loop_calls).items (block 3))
    fourth zero x there = absurd (nothing_contained x there)
    fourth (suc zero) x there = (0, omega arith, first_of_one (answer_of 23 0) x (one_of (answer_of 23 0) x there))
    fourth (suc (suc zero)) x there = absurd (nothing_contained x there)
    fourth (suc (suc (suc k))) x there = absurd (nothing_contained x there)

passes_nothing : (list : List Item) (k : ℕ) → AllByRecursion (λ item. item_passes (Some item) ≡ []) list → item_passes (slice_get list k) ≡ []
passes_nothing [] zero all = refl
passes_nothing [] (suc k) all = refl
passes_nothing (item ∷ list) zero all = all.0
passes_nothing (item ∷ list) (suc k) all = passes_nothing list k all.1

well_placed : IsWellPlaced (program_code (program_so_far loop_calls))
well_placed = record {
  named = λ q x there path walk.
      let giver = names_given q.block q.index x there in
      inr (given_in_block (program_code (program_so_far loop_calls)) path q giver.0 x walk giver.1 giver.2);
  passed = λ q x there.
      absurd (none_of (item_passes (slice_get ((program_so_far loop_calls).items q.block) q.index)) x
      (passes_nothing ((program_so_far loop_calls).items q.block) q.index
      (each_items_of_row (AllByRecursion (λ item. item_passes (Some item) ≡ [])) tt
      (refl, (refl, (refl, tt))) (refl, (refl, tt)) (refl, (refl, (refl, (refl, (refl, tt))))) (refl, (refl, tt)) q.block)) there);
}

pub well_typed : WellTyped (ledger_after (script_of loop_calls)) (program_so_far loop_calls) both_arms_signature
well_typed = record {
  items = each_items_of_row (AllByRecursion (IsItemWellTyped (ledger_after (script_of loop_calls)) (program_so_far loop_calls) (types_of both_arms_signature.returns))) tt
      (record { made_at = refl; operands = tt; edges = tt }, (refl, (record { made_at = refl; operands = tt; edges = (refl, tt) }, tt)))
      (tt, (record { made_at = refl; operands = (refl, tt); edges = (refl, (refl, tt)) }, tt)) (
        tt,
        (
          record { made_at = refl; operands = tt; edges = tt },
          (
            record { made_at = refl; operands = (refl, (refl, tt)); edges = tt },
            (refl, (record { made_at = refl; operands = (refl, tt); edges = (refl, (refl, tt)) }, tt)),
          ),
        ),
      )
      (tt, (record { made_at = refl; operands = refl; edges = tt }, tt));
  entry = refl;
}

pub premises : PremisesSoFar (may_grow loop_calls) loop_calls both_arms_signature
premises = record {
  well_typed = typed_so_far (may_grow loop_calls) (ledger_after (script_of loop_calls)) (program_so_far loop_calls) both_arms_signature well_typed;
  given_before = well_placed;
}

settled : (a name : Name) → Some a ≡ Some name → may_grow loop_calls a ≡ false → may_grow loop_calls name ≡ true → ⊥
settled a name is none grows = not_both (sym none ∙ ap (may_grow loop_calls) same ∙ grows)
  where
    same : a ≡ name
    same = cc

    not_both : false ≡ true → ⊥
    not_both h = cc

-- each block is sealed, and something was made in it
pub none_grows : AreOpen loop_calls loop_body loop_state (may_grow loop_calls)
none_grows zero name named grows = absurd (settled (block 0) name named refl grows)
none_grows (suc zero) name named grows = absurd (settled (block 1) name named refl grows)
none_grows (suc (suc zero)) name named grows = absurd (settled (block 2) name named refl grows)
none_grows (suc (suc (suc zero))) name named grows = absurd (settled (block 3) name named refl grows)
none_grows (suc (suc (suc (suc number)))) name named grows = cc

fits : IsWorldOf both_arms_signature (view_of loop_body) U64 SampleWorld.sample_world
fits = record { arguments = tt; pointers = refl; slots = record { aligned = λ s slot h. cc; accessible = λ s slot k h below. cc; within = λ s slot h. cc; apart = λ s t slot other k l h. cc } }

-- The record ------------------------------------------------------------------------------------------------------------

abbrev nothing_known : Unknowns
nothing_known n x = 0

abbrev left : Machine ScriptStanding Observation
left = interrupted_script loop_calls (loop_state_recording 1) nothing_known 0 (block 0) (script_run_so_far loop_calls loop_body SampleWorld.sample_world (λ x. false))

abbrev right : Machine FunctionStanding Observation
right = interrupted_function (loop_state_recording 1) nothing_known 0 (function_run_so_far loop_calls loop_body SampleWorld.sample_world ByMaps)

-- the use in block2 is given before the block's end
use_is_given : IsGivenBefore (code_so_far loop_calls) (answer_of 15 0) (behind (block 2) 4)
use_is_given path walk =
    inr (given_in_block (code_so_far loop_calls) path (behind (block 2) 4) 0 (answer_of 15 0) walk (omega arith) (first_of_one (answer_of 15 0) (answer_of 15 0) refl))

-- behind the sum the variable has 4, and the parameter that is on record for it 5
pub other_record : ReadsRight loop_calls both_arms_signature loop_body (loop_state_recording 1) → ⊥
unfolding follow
other_record reads = by (reads U64 SampleWorld.sample_world (λ x. false) ByMaps fits premises (free_first loop_body (loop_state_recording 1) refl refl) (inl (nothing_called (script_of loop_calls) refl)) 0 (block 0) refl refl nothing_known 9 _ refl)
  where
    by : HasBeside loop_calls loop_body (loop_state_recording 1) (state_after left 9) right → ⊥
    by found =
        let alike : StandsBeside loop_calls loop_body (loop_state_recording 1) 2 (block 2) 4 (state_after left 9).state (state_after right found.steps).state =
        subst (λ (b : ℕ). StandsBeside loop_calls loop_body (loop_state_recording 1) b (block 2) 4 (state_after left 9).state (state_after right found.steps).state)
        (row_program.distinct found.block 2 (block 2) found.named refl) found.beside in
        let same : 4 ≡ 5 = alike.records (refl, refl) 0 1 (loop_recording_record 1 0 2) ∙ sym (alike.names (answer_of 15 0) use_is_given) in
        absurd (omega (arith, same))
