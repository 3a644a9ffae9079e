-- The row `sample` meets the premises of the theorem in every world.
use Rattle.std.proofs.Common.{◌≡◌, ◌≢◌, ◌<◌, ◌⊎◌, ℕ, zero, suc, false, List, [], ◌∷◌, Some, Contains, inl, inr, refl, sym, ap, subst, arith, slice_get}
use Rattle.std.specs.List.{AllByRecursion}
use Rattle.clif_types.specs.declared.target.PointerWidth.TheVariants.{U64}
use Rattle.clif_types.specs.Target.{pointer_type_of}
use Rattle.clif_tables.specs.Callees.{types_of}
use Rattle.clif_meaning.specs.Name.{Name, answer_of, same_name}
use Rattle.clif_meaning.specs.Ledger.{ledger_after}
use Rattle.clif_meaning.specs.Path.{Place, IsPath}
use Rattle.clif_meaning.specs.Program.{Item, empty_program, program_of}
use Rattle.clif_meaning.specs.ScriptMachine.{ScriptRun}
use Rattle.clif_meaning.specs.Tracked.{is_tracked}
use Rattle.clif_meaning.specs.World.{World}
use Rattle.clif_meaning.specs.WellPlaced.{item_gives, item_names, item_passes, program_code, given_on_entry, IsGivenAlong, IsWellPlaced}
use Rattle.clif_meaning.specs.Premises.{CallsLibraryAsNamed, EachItem, HasGoodTargets, IsGoodTarget, IsItemWellTyped, KeepsTrackedApart, Premises, WellTyped}
use Rattle.clif_meaning.specs.Headline.{script_run}
use Rattle.clif_meaning.specs.BranchExamples.{block, plain}
use Rattle.clif_meaning.specs.SampleExamples.{sample_function, sample_script, sample_signature}
use Rattle.clif_meaning.proofs.FirstPremises as no_memory
use Rattle.clif_meaning.proofs.EachStep.{IsQuietItem, spares, claims}
use Rattle.clif_meaning.proofs.FirstRow.{first_of_one, one_of}
use Rattle.clif_meaning.proofs.SampleWorld
use Rattle.clif_meaning.proofs.StraightLine.{none_of, nothing_contained}
use Rattle.clif_simulation.specs.CarryingExamples.{SampleMeetsPremises}
use Rattle.clif_simulation.proofs.Loops.LoopAlong.{given_in_block}
use Rattle.clif_simulation.proofs.Loops.LoopPremises.{apart, place_in}
use Rattle.clif_simulation.proofs.Loops.LoopProgram.{nothing_there}
use Rattle.clif_simulation.proofs.NameLists.{same_name_cases}

-- THE BLOCKS --------------------------------------------------------------------------------------------------------------

abbrev items_at : Name → List Item
items_at name = (program_of sample_script).items name

data FourCases (name : Name) : Type 0 where
  is_first : block 0 ≡ name → FourCases name
  is_second : block 1 ≡ name → FourCases name
  is_third : block 2 ≡ name → FourCases name
  is_last : block 3 ≡ name → FourCases name
  is_none : items_at name ≡ [] → FourCases name

four_cases : (name : Name) → FourCases name
four_cases name = by (same_name_cases name (block 0)) (same_name_cases name (block 1)) (same_name_cases name (block 2)) (same_name_cases name (block 3))
  where
    by : (name ≡ block 0) ⊎ ((name ≢ block 0) × (same_name name (block 0) ≡ false)) → (name ≡ block 1) ⊎ ((name ≢ block 1) × (same_name name (block 1) ≡ false))
        → (name ≡ block 2) ⊎ ((name ≢ block 2) × (same_name name (block 2) ≡ false)) → (name ≡ block 3) ⊎ ((name ≢ block 3) × (same_name name (block 3) ≡ false))
        → FourCases name
    by (inl a) b c d = is_first (sym a)
    by (inr a) (inl b) c d = is_second (sym b)
    by (inr a) (inr b) (inl c) d = is_third (sym c)
    by (inr a) (inr b) (inr c) (inl d) = is_last (sym d)
    by (inr a) (inr b) (inr c) (inr d) = is_none (nothing_there name sample_script empty_program (a.1, (b.1, (c.1, (d.1, tt)))) tt refl)

-- what holds of each block's name, and of each name without items, holds of each name
each_name : (P : Name → Type 0) → ((name : Name) → items_at name ≡ [] → P name) → P (block 0) → P (block 1) → P (block 2) → P (block 3) → (name : Name) → P name
each_name P none a b c d name = by (four_cases name)
  where
    by : FourCases name → P name
    by (is_first e) = subst P e a
    by (is_second e) = subst P e b
    by (is_third e) = subst P e c
    by (is_last e) = subst P e d
    by (is_none e) = none name e

-- what holds of each item of the blocks
each_item : (P : Item → Type 0) → AllByRecursion P (items_at (block 0)) → AllByRecursion P (items_at (block 1)) → AllByRecursion P (items_at (block 2)) → AllByRecursion P (items_at (block 3))
    → EachItem P (program_of sample_script)
each_item P = each_name (λ name. AllByRecursion P (items_at name)) (λ name none. subst (AllByRecursion P) (sym none) tt)

-- WHAT IS GIVEN -----------------------------------------------------------------------------------------------------------

-- what an item names is a parameter, where it is the first one of its block, or an earlier item of the block gives it
abbrev IsGivenHere : Name → ℕ → Name → Type 0
IsGivenHere name k x =
    ((k ≡ 0) × Contains ((program_of sample_script).parameters name) x) ⊎ ((j : ℕ) × (j < k) × Contains (item_gives (slice_get (items_at name) j)) x)

abbrev NamesGiven : Name → Type 0
NamesGiven name = (k : ℕ) (x : Name) → Contains (item_names (slice_get (items_at name) k)) x → IsGivenHere name k x

two_of : (a b x : Name) → Contains (a ∷ b ∷ []) x → (a ≡ x) ⊎ (b ≡ x)
two_of a b x (zero, below, here) = inl here
two_of a b x (suc zero, below, here) = inr here
two_of a b x (suc (suc k), below, here) = absurd (omega (arith, below))

given : (name : Name) (k j : ℕ) (a x : Name) → j < k → item_gives (slice_get (items_at name) j) ≡ a ∷ [] → a ≡ x → IsGivenHere name k x
given name k j a x before gives same = inr (j, before, subst (λ (names : List Name). Contains names x) (sym gives) (first_of_one a x same))

given_two : (name : Name) (k i j : ℕ) (a b x : Name) → i < k → j < k → item_gives (slice_get (items_at name) i) ≡ a ∷ [] → item_gives (slice_get (items_at name) j) ≡ b ∷ []
    → (a ≡ x) ⊎ (b ≡ x) → IsGivenHere name k x
given_two name k i j a b x before later first second (inl same) = given name k i a x before first same
given_two name k i j a b x before later first second (inr same) = given name k j b x later second same

none : (name : Name) (k : ℕ) (x : Name) → Contains [] x → IsGivenHere name k x
none name k x there = absurd (nothing_contained x there)

in_first : NamesGiven (block 0)
in_first zero x there = inl (refl, there)
in_first (suc zero) x there = none (block 0) 1 x there
in_first (suc (suc zero)) x there = given (block 0) 2 1 (answer_of 11 1) x (omega arith) refl (one_of (answer_of 11 1) x there)
in_first (suc (suc (suc zero))) x there = none (block 0) 3 x there
in_first (suc (suc (suc (suc zero)))) x there = none (block 0) 4 x there
in_first (suc (suc (suc (suc (suc zero))))) x there =
    given_two (block 0) 5 3 4 (answer_of 13 0) (answer_of 14 0) x (omega arith) (omega arith) refl refl (two_of (answer_of 13 0) (answer_of 14 0) x there)
in_first (suc (suc (suc (suc (suc (suc zero)))))) x there = given (block 0) 6 5 (answer_of 15 1) x (omega arith) refl (one_of (answer_of 15 1) x there)
in_first (suc (suc (suc (suc (suc (suc (suc zero))))))) x there = none (block 0) 7 x there
in_first (suc (suc (suc (suc (suc (suc (suc (suc k)))))))) x there = absurd (nothing_contained x there)

in_second : NamesGiven (block 1)
in_second zero x there = none (block 1) 0 x there
in_second (suc zero) x there = none (block 1) 1 x there
in_second (suc (suc zero)) x there =
    given_two (block 1) 2 0 1 (answer_of 19 0) (answer_of 20 0) x (omega arith) (omega arith) refl refl (two_of (answer_of 19 0) (answer_of 20 0) x there)
in_second (suc (suc (suc zero))) x there = given (block 1) 3 2 (answer_of 21 1) x (omega arith) refl (one_of (answer_of 21 1) x there)
in_second (suc (suc (suc (suc zero)))) x there = none (block 1) 4 x there
in_second (suc (suc (suc (suc (suc zero))))) x there = given (block 1) 5 4 (answer_of 23 0) x (omega arith) refl (one_of (answer_of 23 0) x there)
in_second (suc (suc (suc (suc (suc (suc k)))))) x there = absurd (nothing_contained x there)

in_third : NamesGiven (block 2)
in_third zero x there = none (block 2) 0 x there
in_third (suc zero) x there = none (block 2) 1 x there
in_third (suc (suc zero)) x there =
    given_two (block 2) 2 0 1 (answer_of 27 0) (answer_of 28 0) x (omega arith) (omega arith) refl refl (two_of (answer_of 27 0) (answer_of 28 0) x there)
in_third (suc (suc (suc zero))) x there = given (block 2) 3 2 (answer_of 29 1) x (omega arith) refl (one_of (answer_of 29 1) x there)
in_third (suc (suc (suc (suc zero)))) x there = none (block 2) 4 x there
in_third (suc (suc (suc (suc (suc zero))))) x there = given (block 2) 5 4 (answer_of 31 0) x (omega arith) refl (one_of (answer_of 31 0) x there)
in_third (suc (suc (suc (suc (suc (suc k)))))) x there = absurd (nothing_contained x there)

in_last : NamesGiven (block 3)
in_last zero x there = none (block 3) 0 x there
in_last (suc zero) x there = none (block 3) 1 x there
in_last (suc (suc zero)) x there =
    given_two (block 3) 2 0 1 (answer_of 35 0) (answer_of 36 0) x (omega arith) (omega arith) refl refl (two_of (answer_of 35 0) (answer_of 36 0) x there)
in_last (suc (suc (suc zero))) x there = given (block 3) 3 2 (answer_of 37 1) x (omega arith) refl (one_of (answer_of 37 1) x there)
in_last (suc (suc (suc (suc zero)))) x there = none (block 3) 4 x there
in_last (suc (suc (suc (suc (suc k))))) x there = absurd (nothing_contained x there)

-- a name without items names nothing
in_none : (name : Name) → items_at name ≡ [] → NamesGiven name
in_none name empty k x there = absurd (of_no_item k (subst (λ (items : List Item). Contains (item_names (slice_get items k)) x) empty there))
  where
    of_no_item : (k : ℕ) → Contains (item_names (slice_get [] k)) x → ⊥
    of_no_item zero there = nothing_contained x there
    of_no_item (suc k) there = nothing_contained x there

names_given : (name : Name) → NamesGiven name
names_given = each_name NamesGiven in_none in_first in_second in_third in_last

-- no edge passes a name
passes_nothing : (list : List Item) (k : ℕ) → AllByRecursion (λ item. item_passes (Some item) ≡ []) list → item_passes (slice_get list k) ≡ []
passes_nothing [] zero all = refl
passes_nothing [] (suc k) all = refl
passes_nothing (item ∷ list) zero all = all.0
passes_nothing (item ∷ list) (suc k) all = passes_nothing list k all.1

none_passed : EachItem (λ item. item_passes (Some item) ≡ []) (program_of sample_script)
none_passed =
    each_item (λ item. item_passes (Some item) ≡ []) (refl, (refl, (refl, (refl, (refl, (refl, (refl, (refl, tt)))))))) (refl, (refl, (refl, (refl, (refl, (refl, tt))))))
    (refl, (refl, (refl, (refl, (refl, (refl, tt)))))) (refl, (refl, (refl, (refl, (refl, tt)))))

well_placed : IsWellPlaced (program_code (program_of sample_script))
well_placed = record {
  named = λ q x there path walk. by q x path walk (names_given q.block q.index x there);
  passed = λ q x there.
      absurd (none_of (item_passes (slice_get (items_at q.block) q.index)) x (passes_nothing (items_at q.block) q.index (none_passed q.block)) there);
}
  where
    by : (q : Place Name) (x : Name) (path : List (Place Name)) → IsPath (program_code (program_of sample_script)).flow (q ∷ path) → IsGivenHere q.block q.index x
        → Contains (given_on_entry (program_code (program_of sample_script)) q.block q.index) x ⊎ IsGivenAlong (program_code (program_of sample_script)) x path
    by q x path walk (inl first) =
        inl (subst (λ (k : ℕ). Contains (given_on_entry (program_code (program_of sample_script)) q.block k) x) (sym first.0) first.1)
    by q x path walk (inr earlier) = inr (given_in_block (program_code (program_of sample_script)) path q earlier.0 x walk earlier.1 earlier.2)

-- THE PREMISES ------------------------------------------------------------------------------------------------------------

well_typed : WellTyped (ledger_after sample_script) (program_of sample_script) sample_signature
well_typed = record {
  items = each_item (IsItemWellTyped (ledger_after sample_script) (program_of sample_script) (types_of sample_signature.returns))
      (refl, (record { made_at = refl; operands = tt; edges = tt }, (refl, (tt, (tt, (record { made_at = refl; operands = (refl, (refl, tt)); edges = tt }, (refl, (record { made_at = refl; operands = tt; edges = (refl, tt) }, tt))))))))
      (tt, (tt, (record { made_at = refl; operands = (refl, (refl, tt)); edges = tt }, (refl, (tt, (record { made_at = refl; operands = (refl, tt); edges = (refl, (refl, tt)) }, tt))))))
      (tt, (tt, (record { made_at = refl; operands = (refl, (refl, tt)); edges = tt }, (refl, (tt, (record { made_at = refl; operands = refl; edges = tt }, tt))))))
      (tt, (tt, (record { made_at = refl; operands = (refl, (refl, tt)); edges = tt }, (refl, (record { made_at = refl; operands = tt; edges = (refl, tt) }, tt)))));
  entry = refl;
}

abbrev Good : Name → Type 0
Good target = IsGoodTarget (ledger_after sample_script) (program_of sample_script) (plain target)

not_first : (k : ℕ) → Some (block 0) ≡ Some (block (suc k)) → ⊥
not_first k h = let same : 0 ≡ suc k = ap place_in h in absurd (omega (arith, same))

good_second : Good (block 1)
good_second = record { filled = refl; no_entry = not_first 0 }

good_third : Good (block 2)
good_third = record { filled = refl; no_entry = not_first 1 }

good_last : Good (block 3)
good_last = record { filled = refl; no_entry = not_first 2 }

-- no item touches memory
quiet : EachItem IsQuietItem (program_of sample_script)
quiet = each_item IsQuietItem
    (tt, (tt, (tt, (tt, (tt, (tt, (tt, (tt, tt)))))))) (tt, (tt, (tt, (tt, (tt, (tt, tt)))))) (tt, (tt, (tt, (tt, (tt, (tt, tt)))))) (tt, (tt, (tt, (tt, (tt, tt)))))

meets : (world : World) → Premises sample_script sample_signature (pointer_type_of U64) (script_run sample_script sample_function world)
meets world =
    let run : ScriptRun = script_run sample_script sample_function world in
    record {
      targets_filled = each_item (HasGoodTargets (ledger_after sample_script) (program_of sample_script))
          (tt, (tt, (tt, (tt, (tt, (tt, (tt, ((good_second, tt), tt)))))))) (tt, (tt, (tt, (tt, (tt, ((good_last, (good_third, tt)), tt))))))
          (tt, (tt, (tt, (tt, (tt, (tt, tt)))))) (tt, (tt, (tt, (tt, ((good_second, tt), tt)))));
      well_typed = well_typed;
      given_before = well_placed;
      tracked_apart = each_item (KeepsTrackedApart (ledger_after sample_script) (is_tracked sample_script))
          (apart _ _ refl, (tt, (apart _ _ refl, (apart _ _ refl, (apart _ _ refl, (tt, (apart _ _ refl, (tt, tt))))))))
          (apart _ _ refl, (apart _ _ refl, (tt, (apart _ _ refl, (apart _ _ refl, (tt, tt))))))
          (apart _ _ refl, (apart _ _ refl, (tt, (apart _ _ refl, (apart _ _ refl, (tt, tt))))))
          (apart _ _ refl, (apart _ _ refl, (tt, (apart _ _ refl, (tt, tt)))));
      spares_spill_slots = spares run quiet;
      claims_true = claims run quiet;
      libc_as_named = each_item (CallsLibraryAsNamed (pointer_type_of U64))
          (tt, (tt, (tt, (tt, (tt, (tt, (tt, (tt, tt)))))))) (tt, (tt, (tt, (tt, (tt, (tt, tt)))))) (tt, (tt, (tt, (tt, (tt, (tt, tt)))))) (tt, (tt, (tt, (tt, (tt, tt)))));
    }

pub sample_meets_premises : SampleMeetsPremises
sample_meets_premises = record {
  a_world = (
    record SampleWorld.sample_world { arguments = 1 ∷ [] },
    record { arguments = (omega arith, tt); pointers = refl; slots = no_memory.no_slots (record SampleWorld.sample_world { arguments = 1 ∷ [] }) },
    λ events call. refl,
  );
  premises = meets;
}
