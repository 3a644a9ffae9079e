-- The row of the worked example up to its use is read under marks.
use Rattle.std.proofs.Common.{◌≡◌, ◌≢◌, ◌⊎◌, ℕ, zero, suc, true, false, List, [], ◌∷◌, map, drop, Option, None, Some, Contains, slice_get, inl, inr, refl, sym, ◌∙◌, subst, arith}
use Rattle.std.specs.Prelude.{◌==◌, IsTrue}
use Rattle.std.specs.List.{AllByRecursion}
use Rattle.std.proofs.lemmas.Bool.Decides.{nat_tests}
use Rattle.clif_types.specs.EntitySet.{has}
use Rattle.clif_types.specs.declared.target.PointerWidth.TheVariants.{U64}
use Rattle.clif_tables.specs.Callees.{types_of}
use Rattle.clif_ir.specs.Body.{follow}
use Rattle.clif_records.specs.Tracking.{marked_of}
use Rattle.clif_ssa.specs.Sound.{EntryIsFree}
use Rattle.clif_meaning.specs.BranchExamples.{block}
use Rattle.clif_meaning.specs.FunctionMachine.{Collector}
use Rattle.clif_meaning.specs.FunctionView.{Placed}
use Rattle.clif_meaning.specs.Headline.{IsWorldOf}
use Rattle.clif_meaning.specs.Ledger.{is_marked, ledger_after}
use Rattle.clif_meaning.specs.Machine.{At, Control, IsStuck, state_after}
use Rattle.clif_meaning.specs.Name.{Name, same_name}
use Rattle.clif_meaning.specs.Path.{Place}
use Rattle.clif_meaning.specs.Premises.{EachItem, IsItemWellTyped, KeepsTrackedApart}
use Rattle.clif_meaning.specs.Program.{Item}
use Rattle.clif_meaning.specs.Request.{script_of}
use Rattle.clif_meaning.specs.Tracked.{is_tracked}
use Rattle.clif_meaning.specs.View.{block_of, view_of}
use Rattle.clif_meaning.specs.WellPlaced.{Code, IsWellPlaced, given_on_entry, item_names, item_passes, program_code}
use Rattle.clif_meaning.specs.World.{World}
use Rattle.clif_meaning.proofs.FirstPremises as no_memory
use Rattle.clif_meaning.proofs.StraightLine.{none_of, nothing_contained}
use Rattle.clif_simulation.specs.Interrupted.{AreOpen, StandsBeside, without_arguments}
use Rattle.clif_simulation.specs.Reading.{MovesAlike, PremisesSoFar, may_grow}
use Rattle.clif_simulation.specs.Tables.{block_name, program_so_far}
use Rattle.clif_simulation.proofs.FreeEntry.{free_first}
use Rattle.clif_simulation.proofs.NameLists.{same_name_cases}
use Rattle.clif_simulation.proofs.Unfinished.SoFar.{typed_so_far}
use Rattle.clif_standing_laws.specs.Marked.{KeepsApart, ReadsRightRecorded}
use Rattle.clif_standing_laws.specs.MarkedExamples.{MovesSoFar, forgotten_state, nothing_unknown, unfinished_calls, unfinished_function, unfinished_script}
use Rattle.clif_standing_laws.specs.MovingExamples.{moved_called, moved_signature, moved_state}
use Rattle.clif_standing_laws.proofs.Marked.RecordedReading
use Rattle.clif_standing_laws.proofs.Moved.MovedRow
use Rattle.clif_standing_laws.proofs.Moved.MovedRuns

abbrev items : Name → List Item
items name = (program_so_far unfinished_calls).items name

elsewhere : (name : Name) → same_name name (block 0) ≡ false → items name ≡ []
elsewhere name other = rw other refl

-- what holds of no items, and of those of the block, holds of each name's
each_name : (P : Name → List Item → Type 0) → ((name : Name) → P name []) → P (block 0) (items (block 0)) → (name : Name) → P name (items name)
each_name P none of_block name = by (same_name_cases name (block 0))
  where
    by : (name ≡ block 0) ⊎ ((name ≢ block 0) × (same_name name (block 0) ≡ false)) → P name (items name)
    by (inl same) = subst (λ (n : Name). P n (items n)) (sym same) of_block
    by (inr other) = subst (P name) (sym (elsewhere name other.1)) (none name)

each_item : (P : Item → Type 0) → AllByRecursion P (items (block 0)) → EachItem P (program_so_far unfinished_calls)
each_item P = each_name (λ name list. AllByRecursion P list) (λ name. tt)

-- What is given -----------------------------------------------------------------------------------------------------------

abbrev code : Code Name Name
code = program_code (program_so_far unfinished_calls)

-- what is empty for each item is empty at each place
nothing_at : (of : Option Item → List Name) → of None ≡ [] → AllByRecursion (λ item. of (Some item) ≡ []) (items (block 0))
    → (p : Place Name) → of (slice_get (items p.block) p.index) ≡ []
nothing_at of none all p =
    each_name (λ name list. (k : ℕ) → of (slice_get list k) ≡ []) (λ name k. none) (in_list (items (block 0)) all) p.block p.index
  where
    in_list : (list : List Item) → AllByRecursion (λ item. of (Some item) ≡ []) list → (k : ℕ) → of (slice_get list k) ≡ []
    in_list [] all k = none
    in_list (item ∷ list) all zero = all.0
    in_list (item ∷ list) all (suc k) = in_list list all.1 k

-- the assignment alone names anything: the parameter, as the first item
abbrev NamesFirst : Name → List Item → Type 0
NamesFirst name list = (k : ℕ) (x : Name) → Contains (item_names (slice_get list k)) x → (k ≡ 0) × Contains ((program_so_far unfinished_calls).parameters name) x

in_block : NamesFirst (block 0) (items (block 0))
in_block zero x there = (refl, there)
in_block (suc zero) x there = absurd (nothing_contained x there)
in_block (suc (suc zero)) x there = absurd (nothing_contained x there)
in_block (suc (suc (suc k))) x there = absurd (nothing_contained x there)

well_placed : IsWellPlaced code
well_placed = record {
  named = λ q x there path walk.
      let first = each_name NamesFirst (λ name k y named. absurd (nothing_contained y named)) in_block q.block q.index x there in
      inl (subst (λ (k : ℕ). Contains (given_on_entry code q.block k) x) (sym first.0) first.1);
  passed = λ q x there. absurd (none_of (code.passes q) x (nothing_at item_passes refl (refl, (refl, (refl, tt))) q) there);
}

-- The premises ------------------------------------------------------------------------------------------------------------

pub premises : PremisesSoFar (may_grow unfinished_calls) unfinished_calls moved_signature
premises = record {
  well_typed = typed_so_far (may_grow unfinished_calls) (ledger_after (script_of unfinished_calls)) (program_so_far unfinished_calls) moved_signature
      (record {
        items = each_item (IsItemWellTyped (ledger_after (script_of unfinished_calls)) (program_so_far unfinished_calls) (types_of moved_signature.returns))
            (refl, (record { made_at = refl; operands = (tt, refl); edges = tt }, (tt, tt)));
        entry = refl;
      });
  given_before = well_placed;
}

pub apart : KeepsApart unfinished_calls
apart =
    each_item (KeepsTrackedApart (ledger_after (script_of unfinished_calls)) (is_tracked (script_of unfinished_calls))) (λ tracked. refl, (tt, (λ tracked. refl, tt)))

pub marks : (x : ℕ) → is_marked (ledger_after (script_of unfinished_calls)) x ≡ has (marked_of moved_state.tracking) x
marks zero = refl
marks (suc x) = rw (other x) refl
  where
    other : (x : ℕ) → (0 == suc x) ≡ false
    other x = grind (arith, nat_tests)

none_some : {X : Type 0} {x : X} → None ≡ Some x → ⊥
none_some same = cc

some_is : {X : Type 0} {x y : X} → Some x ≡ Some y → x ≡ y
some_is same = cc

-- the one block is sealed, and something was made in it
open_blocks : AreOpen unfinished_calls moved_called moved_state (may_grow unfinished_calls)
open_blocks zero name named grows = absurd (none_grows (subst (λ (n : Name). IsTrue (may_grow unfinished_calls n)) (sym (some_is named)) grows))
  where
    none_grows : IsTrue false → ⊥
    none_grows is = cc
open_blocks (suc b) name named grows = absurd (none_some named)

pub reads_right : ReadsRightRecorded (may_grow unfinished_calls) unfinished_calls moved_signature moved_called moved_state
reads_right =
    RecordedReading.reads_right unfinished_calls moved_signature moved_called moved_state (may_grow unfinished_calls) MovedRow.called_is_consistent MovedRow.used
    open_blocks marks

-- The runs ------------------------------------------------------------------------------------------------------------------

fits : IsWorldOf moved_signature (view_of moved_called) U64 MovedRuns.passing
fits = record { arguments = (omega arith, tt); pointers = refl; slots = no_memory.no_slots MovedRuns.passing }

moves : MovesSoFar MovedRuns.passing
unfolding follow
moves = record { name_moves = refl; variable_moves = refl; value_moves = refl; forgotten = refl }

pub a_world : (world : World) × IsWorldOf moved_signature (view_of moved_called) U64 world × MovesSoFar world
a_world = (MovedRuns.passing, fits, moves)

-- Where the parameter isn't recorded ------------------------------------------------------------------------------------------

free : EntryIsFree moved_called forgotten_state
free = free_first moved_called forgotten_state refl refl

-- behind the call nothing stands, and the run is stuck
stuck : (n : ℕ) → (state_after (unfinished_function forgotten_state MovedRuns.passing) (suc (suc n))).state.control ≡ IsStuck
stuck zero = refl
stuck (suc n) = rw (stuck n) (stuck n)

abbrev Beside : ℕ → ℕ → Type 0
Beside b steps =
    StandsBeside unfinished_calls moved_called forgotten_state b (block 0) 3
    (state_after (unfinished_script MovedRuns.passing) 3).state (state_after (unfinished_function forgotten_state MovedRuns.passing) steps).state

-- so it doesn't stand beside the block's end so far, where the variable has moved, but in front of the call or behind it
refuted : (b steps : ℕ) → block_name unfinished_calls b ≡ Some (block 0) → Beside b steps → ⊥
unfolding follow
refuted zero zero named beside = at_call (drop beside.function_at.index (block_of moved_called 0).items) beside.function_at.at beside.function_at.instructions
  where
    no_things : List Placed
    no_things = []

    at_call : (left : List Placed) → (state_after (unfinished_function forgotten_state MovedRuns.passing) 0).state.control ≡ At left
        → map without_arguments left ≡ [] → ⊥
    at_call [] at instructions = cc
    at_call (thing ∷ left) at instructions = cc
refuted zero (suc zero) named beside = differ (sym moves.variable_moves ∙ beside.records tt 0 0 (MovedRow.records 0 0) ∙ moves.forgotten)
  where
    differ : ◌≡◌ {A = ℕ} 80 64 → ⊥
    differ same = omega (arith, same)
refuted zero (suc (suc n)) named beside = ended (sym (stuck n) ∙ beside.function_at.at)
  where
    ended : {left : List Placed} → ◌≡◌ {A = Control Placed} IsStuck (At left) → ⊥
    ended same = cc
refuted (suc b) steps named beside = none_some named

pub forgets : ReadsRightRecorded (may_grow unfinished_calls) unfinished_calls moved_signature moved_called forgotten_state → ⊥
unfolding follow
forgets reads =
    let found = reads U64 MovedRuns.passing fits premises free apart 0 (block 0) refl refl nothing_unknown 3 [] refl in
    refuted found.block found.steps found.named found.beside

-- Marks -----------------------------------------------------------------------------------------------------------------------

pub not_alike : (collector : Collector) → MovesAlike unfinished_calls (is_tracked (script_of unfinished_calls)) collector → ⊥
not_alike collector (inl none) = let call = (none (block 0)).1.0 in cc
not_alike collector (inr (inl nothing)) = true_no_false (nothing.unmarked 0)
  where
    true_no_false : true ≡ false → ⊥
    true_no_false same = cc
not_alike collector (inr (inr tracked)) = true_no_false (tracked.unmarked 0)
  where
    true_no_false : true ≡ false → ⊥
    true_no_false same = cc
