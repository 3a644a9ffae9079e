-- The worked example of coming edges, one of them an outside call's, is read along them.
use Rattle.std.proofs.Common.{◌≡◌, ◌≢◌, ◌<◌, ◌⊎◌, ℕ, zero, suc, false, List, [], ◌∷◌, Some, Contains, slice_get, inl, inr, refl, sym, ◌∙◌, ap, subst, arith}
use Rattle.std.specs.Prelude.{◌==◌}
use Rattle.std.specs.List.{AllByRecursion}
use Rattle.std.proofs.lemmas.Bool.Decides.{nat_tests}
use Rattle.clif_types.specs.EntitySet.{has}
use Rattle.clif_types.specs.declared.target.PointerWidth.TheVariants.{U64}
use Rattle.clif_tables.specs.Callees.{types_of}
use Rattle.clif_ir.specs.Body.{follow}
use Rattle.clif_records.specs.Tracking.{marked_of}
use Rattle.clif_ssa.specs.Sound.{EntryIsFree}
use Rattle.clif_meaning.specs.BranchExamples.{block}
use Rattle.clif_meaning.specs.Examples.{first_signature}
use Rattle.clif_meaning.specs.Headline.{IsWorldOf}
use Rattle.clif_meaning.specs.Ledger.{is_marked, ledger_after}
use Rattle.clif_meaning.specs.Name.{Name, answer_of, same_name}
use Rattle.clif_meaning.specs.Path.{IsPath, Leads, Place}
use Rattle.clif_meaning.specs.Premises.{EachItem, IsItemWellTyped, KeepsTrackedApart}
use Rattle.clif_meaning.specs.Program.{Item, Instruct, Use}
use Rattle.clif_meaning.specs.Request.{script_of}
use Rattle.clif_meaning.specs.Tracked.{is_tracked}
use Rattle.clif_meaning.specs.View.{view_of}
use Rattle.clif_meaning.specs.WellPlaced.{Code, IsGivenAlong, IsGivenBefore, IsWellPlaced, given_on_entry, item_gives, item_names, item_passes}
use Rattle.clif_meaning.specs.World.{World}
use Rattle.clif_meaning.proofs.FirstPremises as no_memory
use Rattle.clif_meaning.proofs.SampleWorld
use Rattle.clif_meaning.proofs.StraightLine.{none_of, nothing_contained}
use Rattle.clif_simulation.specs.Coming.{MayCome, code_coming, function_coming, targets_with}
use Rattle.clif_simulation.specs.Reading.{WellTypedSoFar, behind, may_grow}
use Rattle.clif_simulation.specs.Tables.{answered, block_name, program_so_far}
use Rattle.clif_simulation.specs.TrackedExamples.{doubled}
use Rattle.clif_simulation.proofs.Finished.Giving.{contained_in}
use Rattle.clif_simulation.proofs.FreeEntry.{free_first}
use Rattle.clif_simulation.proofs.NameLists.{only_one, same_name_cases}
use Rattle.clif_simulation.proofs.Shape.Defined.{well_placed_coming}
use Rattle.clif_simulation.proofs.Unfinished.SoFar.{typed_so_far}
use Rattle.clif_simulation.proofs.Whole.{whole}
use Rattle.clif_standing_laws.specs.Marked.{KeepsApart, ReadsRightRecordedComing}
use Rattle.clif_standing_laws.specs.MarkedComingExamples.{MovesAlong, around_use, through_use, used_name, waiting_body, waiting_calls, waiting_state}
use Rattle.clif_standing_laws.proofs.Marked.ComingCarried.{carried, consistent, unsealed}
use Rattle.clif_standing_laws.proofs.Marked.RecordedReading

abbrev items : Name → List Item
items name = (program_so_far waiting_calls).items name

abbrev the_sum : Item
the_sum = Instruct 10 (doubled used_name) (answer_of 10 1 ∷ [])

-- What a block has: block1 has the use, block2 the sum, and no other anything.
data IsOne (name : Name) (list : List Item) : Type 0 where
  using : name ≡ block 1 → list ≡ Use 0 used_name ∷ [] → IsOne name list
  summing : name ≡ block 2 → list ≡ the_sum ∷ [] → IsOne name list
  empty : list ≡ [] → IsOne name list

items_are : (name : Name) → IsOne name (items name)
items_are name = by (same_name_cases name (block 1)) (same_name_cases name (block 2))
  where
    by : (name ≡ block 1) ⊎ ((name ≢ block 1) × (same_name name (block 1) ≡ false)) → (name ≡ block 2) ⊎ ((name ≢ block 2) × (same_name name (block 2) ≡ false))
        → IsOne name (items name)
    by (inl same) other = using same (ap items same)
    by (inr other) (inl same) = summing same (ap items same)
    by (inr one) (inr other) = empty (rw (one.1, other.1) refl)

each_item : (P : Item → Type 0) → P (Use 0 used_name) → P the_sum → EachItem P (program_so_far waiting_calls)
each_item P of_use of_sum name = by (items_are name)
  where
    by : IsOne name (items name) → AllByRecursion P (items name)
    by (using same is) = subst (λ (list : List Item). AllByRecursion P list) (sym is) (of_use, tt)
    by (summing same is) = subst (λ (list : List Item). AllByRecursion P list) (sym is) (of_sum, tt)
    by (empty is) = subst (λ (list : List Item). AllByRecursion P list) (sym is) tt

-- The premises ------------------------------------------------------------------------------------------------------------

pub typed : WellTypedSoFar (may_grow waiting_calls) (ledger_after (script_of waiting_calls)) (program_so_far waiting_calls) first_signature
typed =
    typed_so_far (may_grow waiting_calls) (ledger_after (script_of waiting_calls)) (program_so_far waiting_calls) first_signature
    (record {
      items = each_item (IsItemWellTyped (ledger_after (script_of waiting_calls)) (program_so_far waiting_calls) (types_of first_signature.returns)) tt
          (record { made_at = refl; operands = (refl, (refl, tt)); edges = tt });
      entry = refl;
    })

pub apart : KeepsApart waiting_calls
apart = each_item (KeepsTrackedApart (ledger_after (script_of waiting_calls)) (is_tracked (script_of waiting_calls))) (λ tracked. refl) tt

marks : (x : ℕ) → is_marked (ledger_after (script_of waiting_calls)) x ≡ has (marked_of waiting_state.tracking) x
marks zero = refl
marks (suc x) = rw (other x) refl
  where
    other : (x : ℕ) → (0 == suc x) ≡ false
    other x = grind (arith, nat_tests)

free : EntryIsFree waiting_body waiting_state
free = free_first waiting_body waiting_state refl refl

-- The edges that may come ---------------------------------------------------------------------------------------------------

-- from block0 to block1, and from there to block2
from_to : (from target : Name) → Contains (through_use from) target → ((from ≡ block 0) × (target ≡ block 1)) ⊎ ((from ≡ block 1) × (target ≡ block 2))
from_to from target there = by (same_name_cases from (block 0)) (same_name_cases from (block 1))
  where
    by : (from ≡ block 0) ⊎ ((from ≢ block 0) × (same_name from (block 0) ≡ false)) → (from ≡ block 1) ⊎ ((from ≢ block 1) × (same_name from (block 1) ≡ false))
        → ((from ≡ block 0) × (target ≡ block 1)) ⊎ ((from ≡ block 1) × (target ≡ block 2))
    by (inl same) other = inl (same, sym (only_one (block 1) target (subst (λ (name : Name). Contains (through_use name) target) same there)))
    by (inr other) (inl same) = inr (same, sym (only_one (block 2) target (subst (λ (name : Name). Contains (through_use name) target) same there)))
    by (inr one) (inr other) = absurd (none_of (through_use from) target (rw (one.1, other.1) refl) there)

abbrev code : Code Name Name
code = code_coming through_use waiting_calls

-- the sum alone names anything: what the use answers
named_there : (q : Place Name) (x : Name) → Contains (code.names q) x → (q.block ≡ block 2) × (q.index ≡ 0) × (x ≡ used_name)
named_there q x there = by (items_are q.block)
  where
    two : (y : Name) → Contains (used_name ∷ used_name ∷ []) y → y ≡ used_name
    two y among = of (contained_in (used_name ∷ used_name ∷ []) y among)
      where
        of : (y ≡ used_name) ⊎ ((y ≡ used_name) ⊎ ⊥) → y ≡ used_name
        of (inl same) = same
        of (inr (inl same)) = same
        of (inr (inr none)) = absurd none

    of_sum : (k : ℕ) → Contains (item_names (slice_get (the_sum ∷ []) k)) x → (k ≡ 0) × (x ≡ used_name)
    of_sum zero among = (refl, two x among)
    of_sum (suc k) among = absurd (nothing_contained x among)

    of_use : (k : ℕ) → Contains (item_names (slice_get (Use 0 used_name ∷ []) k)) x → ⊥
    of_use zero among = nothing_contained x among
    of_use (suc k) among = nothing_contained x among

    in_list : (list : List Item) → items q.block ≡ list → Contains (item_names (slice_get list q.index)) x
    in_list list is = subst (λ (l : List Item). Contains (item_names (slice_get l q.index)) x) is there

    by : IsOne q.block (items q.block) → (q.block ≡ block 2) × (q.index ≡ 0) × (x ≡ used_name)
    by (using same is) = absurd (of_use q.index (in_list (Use 0 used_name ∷ []) is))
    by (summing same is) = let found = of_sum q.index (in_list (the_sum ∷ []) is) in (same, found.0, found.1)
    by (empty is) = absurd (nothing_contained x (in_list [] is))

passes_none : (q : Place Name) (x : Name) → Contains (code.passes q) x → ⊥
passes_none q x there = by (items_are q.block)
  where
    of_list : (item : Item) → item_passes (Some item) ≡ [] → (k : ℕ) → item_passes (slice_get (item ∷ []) k) ≡ []
    of_list item none zero = none
    of_list item none (suc k) = refl

    in_list : (list : List Item) → items q.block ≡ list → item_passes (slice_get list q.index) ≡ [] → ⊥
    in_list list is none = none_of (code.passes q) x (ap (λ (l : List Item). item_passes (slice_get l q.index)) is ∙ none) there

    by : IsOne q.block (items q.block) → ⊥
    by (using same is) = in_list (Use 0 used_name ∷ []) is (of_list (Use 0 used_name) refl q.index)
    by (summing same is) = in_list (the_sum ∷ []) is (of_list the_sum refl q.index)
    by (empty is) = in_list [] is refl

-- no item leads anywhere, so only coming edges lead to block2: from block1 behind its use
leads_from : (p : Place Name) → Contains (code.flow.targets p) (block 2) → (p.block ≡ block 1) × (0 < p.index)
leads_from p there = by (items_are p.block)
  where
    coming_there : Contains (through_use p.block) (block 2) → p.block ≡ block 1
    coming_there among = of (from_to p.block (block 2) among)
      where
        apart_names : block 2 ≡ block 1 → ⊥
        apart_names same = let places : 2 ≡ 1 = ap (λ (n : Name). n.place) same in omega (arith, places)

        of : ((p.block ≡ block 0) × (block 2 ≡ block 1)) ⊎ ((p.block ≡ block 1) × (block 2 ≡ block 2)) → p.block ≡ block 1
        of (inl one) = absurd (apart_names one.1)
        of (inr other) = other.0

    in_list : (list : List Item) → items p.block ≡ list → Contains (targets_with (through_use p.block) (slice_get list p.index)) (block 2)
    in_list list is = subst (λ (l : List Item). Contains (targets_with (through_use p.block) (slice_get l p.index)) (block 2)) is there

    behind_item : (item : Item) → targets_with (through_use p.block) (Some item) ≡ [] → (k : ℕ)
        → Contains (targets_with (through_use p.block) (slice_get (item ∷ []) k)) (block 2) → (0 < k) × Contains (through_use p.block) (block 2)
    behind_item item none zero among = absurd (none_of (targets_with (through_use p.block) (Some item)) (block 2) none among)
    behind_item item none (suc k) among = (omega arith, among)

    not_two : (name : Name) → name ≡ block 2 → name ≡ block 1 → ⊥
    not_two name one other = let places : 2 ≡ 1 = ap (λ (n : Name). n.place) (sym one ∙ other) in omega (arith, places)

    not_empty : items p.block ≡ [] → p.block ≡ block 1 → ⊥
    not_empty none same = some (sym (ap items same) ∙ none)
      where
        some : ◌≡◌ {A = List Item} (Use 0 used_name ∷ []) [] → ⊥
        some is = cc

    by : IsOne p.block (items p.block) → (p.block ≡ block 1) × (0 < p.index)
    by (using same is) = let found = behind_item (Use 0 used_name) refl p.index (in_list (Use 0 used_name ∷ []) is) in (same, found.0)
    by (summing same is) =
        let found = behind_item the_sum refl p.index (in_list (the_sum ∷ []) is) in absurd (not_two p.block same (coming_there found.1))
    by (empty is) = absurd (not_empty is (coming_there (in_list [] is)))

-- a path that comes behind the use came through it
behind_use : (p : Place Name) (path : List (Place Name)) → p.block ≡ block 1 → 0 < p.index → IsPath code.flow (p ∷ path) → IsGivenAlong code used_name path
behind_use p [] at past walk = absurd (omega (arith, past, walk.1.0))
behind_use p (q ∷ path) at past walk = by walk.0
  where
    gives : (b : Name) (k : ℕ) → b ≡ block 1 → k ≡ 0 → Contains (item_gives (slice_get (items b) k)) used_name
    gives b k block_is index_is =
        subst (λ (c : Name). Contains (item_gives (slice_get (items c) k)) used_name) (sym block_is)
        (subst (λ (j : ℕ). Contains (item_gives (slice_get (items (block 1)) j)) used_name) (sym index_is) (0, omega arith, refl))

    by : Leads code.flow q p → IsGivenAlong code used_name (q ∷ path)
    by (inl next) =
        let size : code.flow.size p.block ≡ 2 = ap code.flow.size at in
        inl (gives q.block q.index (sym next.0 ∙ at) (omega (arith, next.1, next.2, size)))
    by (inr enters) = absurd (omega (arith, past, enters.1.0))

given_before : (q : Place Name) (x : Name) → (q.block ≡ block 2) × (q.index ≡ 0) × (x ≡ used_name) → IsGivenBefore code x q
given_before q x (at, first, is) [] walk = absurd (not_entry (some_is walk.0 ∙ at))
  where
    some_is : {a b : Name} → Some a ≡ Some b → a ≡ b
    some_is same = cc

    not_entry : block 0 ≡ block 2 → ⊥
    not_entry same = let places : 0 ≡ 2 = ap (λ (n : Name). n.place) same in omega (arith, places)
given_before q x (at, first, is) (p ∷ path) walk = by walk.0
  where
    by : Leads code.flow p q → Contains (given_on_entry code q.block q.index) x ⊎ IsGivenAlong code x (p ∷ path)
    by (inl next) = absurd (omega (arith, first, next.1))
    by (inr enters) =
        let from = leads_from p (subst (λ (b : Name). Contains (code.flow.targets p) b) at enters.0) in
        inr (inr (inr (subst (λ (y : Name). IsGivenAlong code y path) (sym is) (behind_use p path from.0 from.1 walk.1))))

pub may_come : MayCome through_use waiting_calls waiting_state
may_come = record {
  blocks = λ from target there. named target (from_to from target there);
  unsealed = λ from target there. unsealed (answered waiting_calls target);
  given_before = record {
    named = λ q x there. given_before q x (named_there q x there);
    passed = λ q x there. absurd (passes_none q x there);
  };
}
  where
    named : {from : Name} (target : Name) → ((from ≡ block 0) × (target ≡ block 1)) ⊎ ((from ≡ block 1) × (target ≡ block 2))
        → block_name waiting_calls (answered waiting_calls target) ≡ Some target
    named target (inl one) = subst (λ (name : Name). block_name waiting_calls (answered waiting_calls name) ≡ Some name) (sym one.1) refl
    named target (inr other) = subst (λ (name : Name). block_name waiting_calls (answered waiting_calls name) ≡ Some name) (sym other.1) refl

-- Around the use --------------------------------------------------------------------------------------------------------------

pub may_not : MayCome around_use waiting_calls waiting_state → ⊥
may_not may =
    by (may.given_before.named (behind (block 2) 0) used_name (0, omega arith, refl) (behind (block 0) 0 ∷ [])
    (inr ((0, omega arith, refl), (refl, omega arith)), (refl, (refl, omega arith))))
  where
    by : Contains [] used_name ⊎ (Contains [] used_name ⊎ Contains [] used_name ⊎ ⊥) → ⊥
    by (inl there) = nothing_contained used_name there
    by (inr (inl there)) = nothing_contained used_name there
    by (inr (inr (inl there))) = nothing_contained used_name there
    by (inr (inr (inr none))) = none

pub misplaced : IsWellPlaced (function_coming around_use waiting_calls waiting_body) → ⊥
unfolding follow
misplaced placed =
    by (placed.named (record { block = 2; index = 0 }) 0 (0, omega arith, refl) (record { block = 0; index = 0 } ∷ [])
    (inr ((0, omega arith, refl), (refl, omega arith)), (refl, (refl, omega arith))))
  where
    by : Contains {X = ℕ} [] 0 ⊎ (Contains {X = ℕ} [] 0 ⊎ Contains {X = ℕ} [] 0 ⊎ ⊥) → ⊥
    by (inl there) = nothing_contained 0 there
    by (inr (inl there)) = nothing_contained 0 there
    by (inr (inr (inl there))) = nothing_contained 0 there
    by (inr (inr (inr none))) = none

-- The function ----------------------------------------------------------------------------------------------------------------

pub placed : IsWellPlaced (function_coming through_use waiting_calls waiting_body)
placed =
    well_placed_coming through_use waiting_calls waiting_body waiting_state consistent (whole waiting_calls waiting_body waiting_state consistent carried free) may_come

pub reads_right : ReadsRightRecordedComing (may_grow waiting_calls) waiting_calls first_signature waiting_body waiting_state
reads_right =
    RecordedReading.reads_right_coming waiting_calls first_signature waiting_body waiting_state (may_grow waiting_calls) consistent carried
    (λ b name named grows. inl (unsealed b)) marks

fits : IsWorldOf first_signature (view_of waiting_body) U64 SampleWorld.sample_world
fits = record { arguments = tt; pointers = refl; slots = no_memory.no_slots SampleWorld.sample_world }

pub a_world : (world : World) × IsWorldOf first_signature (view_of waiting_body) U64 world × MovesAlong world
unfolding follow
a_world = (SampleWorld.sample_world, fits, record { used = refl; waits = refl; name_moves = refl; value_moves = refl; forgotten = refl })
