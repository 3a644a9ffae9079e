-- The calls of the worked example meet the premises on branches, types and names, and keep what is tracked apart from variables that
-- aren't marked.
use Rattle.std.proofs.Common.{◌≡◌, ◌≢◌, ◌<◌, ◌⊎◌, ℕ, zero, suc, false, List, [], ◌∷◌, Option, None, Some, Contains, slice_get, inl, inr, refl, sym, subst, arith}
use Rattle.std.specs.List.{AllByRecursion}
use Rattle.clif_tables.specs.Callees.{types_of}
use Rattle.clif_meaning.specs.BranchExamples.{block}
use Rattle.clif_meaning.specs.Ledger.{ledger_after}
use Rattle.clif_meaning.specs.Name.{Name, same_name}
use Rattle.clif_meaning.specs.Path.{IsPath, Place}
use Rattle.clif_meaning.specs.Premises.{EachItem, HasGoodTargets, IsItemWellTyped, KeepsTrackedApart, PlacementPremises}
use Rattle.clif_meaning.specs.Program.{Item, program_of}
use Rattle.clif_meaning.specs.Request.{script_of}
use Rattle.clif_meaning.specs.Tracked.{is_tracked}
use Rattle.clif_meaning.specs.WellPlaced.{Code, IsGivenAlong, IsWellPlaced, given_on_entry, item_gives, item_names, item_passes, item_targets, program_code}
use Rattle.clif_meaning.proofs.StraightLine.{given_along, none_of, nothing_contained}
use Rattle.clif_simulation.proofs.NameLists.{same_name_cases}
use Rattle.clif_standing_laws.specs.MovingExamples.{moved_calls, moved_signature}

abbrev items : Name → List Item
items name = (program_of (script_of moved_calls)).items name

elsewhere : (name : Name) → same_name name (block 0) ≡ false → items name ≡ []
elsewhere name other = rw other refl

-- what holds of no items, and of those of the block, holds of each name's
each_name : (P : Name → List Item → Type 0) → ((name : Name) → P name []) → P (block 0) (items (block 0)) → (name : Name) → P name (items name)
each_name P none of_block name = by (same_name_cases name (block 0))
  where
    by : (name ≡ block 0) ⊎ ((name ≢ block 0) × (same_name name (block 0) ≡ false)) → P name (items name)
    by (inl same) = subst (λ (n : Name). P n (items n)) (sym same) of_block
    by (inr other) = subst (P name) (sym (elsewhere name other.1)) (none name)

each_item : (P : Item → Type 0) → AllByRecursion P (items (block 0)) → EachItem P (program_of (script_of moved_calls))
each_item P = each_name (λ name list. AllByRecursion P list) (λ name. tt)

-- What is given -----------------------------------------------------------------------------------------------------------

abbrev code : Code Name Name
code = program_code (program_of (script_of moved_calls))

-- what is empty for each item is empty at each place
nothing_at : (of : Option Item → List Name) → of None ≡ [] → AllByRecursion (λ item. of (Some item) ≡ []) (items (block 0))
    → (p : Place Name) → of (slice_get (items p.block) p.index) ≡ []
nothing_at of none all p =
    each_name (λ name list. (k : ℕ) → of (slice_get list k) ≡ []) (λ name k. none) (in_list (items (block 0)) all) p.block p.index
  where
    in_list : (list : List Item) → AllByRecursion (λ item. of (Some item) ≡ []) list → (k : ℕ) → of (slice_get list k) ≡ []
    in_list [] all k = none
    in_list (item ∷ list) all zero = all.0
    in_list (item ∷ list) all (suc k) = in_list list all.1 k

no_targets : (p : Place Name) → code.flow.targets p ≡ []
no_targets = nothing_at item_targets refl (refl, (refl, (refl, (refl, tt))))

-- what an item names is a parameter, where it is the first one of its block, or an earlier item of the block gives it
abbrev IsGivenHere : Name → ℕ → Name → Type 0
IsGivenHere name k x =
    ((k ≡ 0) × Contains ((program_of (script_of moved_calls)).parameters name) x)
    ⊎ ((j : ℕ) × (j < k) × Contains (item_gives (slice_get (items name) j)) x)

abbrev NamesGiven : Name → List Item → Type 0
NamesGiven name list = (k : ℕ) (x : Name) → Contains (item_names (slice_get list k)) x → IsGivenHere name k x

-- the assignment names the parameter, and the return what the use before it gives
in_block : NamesGiven (block 0) (items (block 0))
in_block zero x there = inl (refl, there)
in_block (suc zero) x there = absurd (nothing_contained x there)
in_block (suc (suc zero)) x there = absurd (nothing_contained x there)
in_block (suc (suc (suc zero))) x there = inr (2, omega arith, there)
in_block (suc (suc (suc (suc k)))) x there = absurd (nothing_contained x there)

well_placed : IsWellPlaced code
well_placed = record {
  named = λ q x there path walk.
      by q x path walk (each_name NamesGiven (λ name k y named. absurd (nothing_contained y named)) in_block q.block q.index x there);
  passed = λ q x there. absurd (none_of (code.passes q) x (nothing_at item_passes refl (refl, (refl, (refl, (refl, tt)))) q) there);
}
  where
    by : (q : Place Name) (x : Name) (path : List (Place Name)) → IsPath code.flow (q ∷ path) → IsGivenHere q.block q.index x
        → Contains (given_on_entry code q.block q.index) x ⊎ IsGivenAlong code x path
    by q x path walk (inl first) = inl (subst (λ (k : ℕ). Contains (given_on_entry code q.block k) x) (sym first.0) first.1)
    by q x path walk (inr earlier) = inr (given_along code no_targets path q earlier.0 x walk earlier.1 earlier.2)

-- The premises ------------------------------------------------------------------------------------------------------------

pub premises : PlacementPremises (script_of moved_calls) moved_signature
premises = record {
  targets_filled = each_item (HasGoodTargets (ledger_after (script_of moved_calls)) (program_of (script_of moved_calls))) (tt, (tt, (tt, (tt, tt))));
  well_typed = record {
    items = each_item (IsItemWellTyped (ledger_after (script_of moved_calls)) (program_of (script_of moved_calls)) (types_of moved_signature.returns))
        (refl, (record { made_at = refl; operands = (tt, refl); edges = tt }, (tt, (record { made_at = refl; operands = refl; edges = tt }, tt))));
    entry = refl;
  };
  given_before = well_placed;
}

-- the one variable, to which and from which tracked names are copied, is marked
abbrev IsKeptApart : Item → Type 0
IsKeptApart = KeepsTrackedApart (ledger_after (script_of moved_calls)) (is_tracked (script_of moved_calls))

pub apart : EachItem IsKeptApart (program_of (script_of moved_calls))
apart = each_item IsKeptApart (λ tracked. refl, (tt, (λ tracked. refl, (tt, tt))))
