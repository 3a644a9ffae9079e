-- The row `first` meets the premises, and its function means what its script means.
use Rattle.std.proofs.Common.{◌≡◌, ◌<◌, ℕ, zero, suc, List, [], ◌∷◌, refl, sym, ◌∙◌, ap, arith, ◌⊎◌, inl, inr, subst, slice_index_or, Bool, true, false}
use Rattle.std.specs.Prelude.{Contains, slice_get}
use Rattle.std.specs.List.{AllByRecursion}
use Rattle.clif_meaning.specs.Name.{Name, answer_of, same_name}
use Rattle.clif_meaning.specs.Program.{Item, program_of}
use Rattle.clif_meaning.specs.Path.{Place, IsPath}
use Rattle.clif_meaning.specs.WellPlaced.{Code, item_targets, item_gives, item_names, item_passes, program_code, function_code, IsWellPlaced, WellPlaced, IsGivenBefore, IsGivenAlong}
use Rattle.clif_meaning.specs.Typing.{EdgesMatch}
use Rattle.clif_meaning.specs.Premises.{EachItem}
use Rattle.clif_meaning.specs.Examples.{first_script, first_function, block0}
use Rattle.clif_meaning.proofs.StraightLine

pub one_of : {X : Type 0} (a x : X) → Contains (a ∷ []) x → a ≡ x
one_of a x h = by h.0 h.1 h.2
  where
    by : (k : ℕ) → k < 1 → slice_index_or (a ∷ []) k x ≡ x → a ≡ x
    by zero below here = here
    by (suc k) below here = absurd (omega arith)

two_of : {X : Type 0} (a b x : X) → Contains (a ∷ b ∷ []) x → (a ≡ x) ⊎ (b ≡ x)
two_of a b x h = by h.0 h.1 h.2
  where
    by : (k : ℕ) → k < 2 → slice_index_or (a ∷ b ∷ []) k x ≡ x → (a ≡ x) ⊎ (b ≡ x)
    by zero below here = inl here
    by (suc zero) below here = inr here
    by (suc (suc k)) below here = absurd (omega arith)

pub first_of_one : {X : Type 0} (a x : X) → a ≡ x → Contains (a ∷ []) x
first_of_one a x here = (0, omega arith, here)

pub function_straight : (p : Place ℕ) → (function_code first_function).flow.targets p ≡ []
function_straight p = by p.block p.index
  where
    by : (b i : ℕ) → (function_code first_function).flow.targets (record { block = b; index = i }) ≡ []
    by zero zero = refl
    by zero (suc zero) = refl
    by zero (suc (suc zero)) = refl
    by zero (suc (suc (suc zero))) = refl
    by zero (suc (suc (suc (suc i)))) = refl
    by (suc b) i = refl

-- each item of a block of the script, by the items of its one block
pub first_items : (P : Item → Type 0) → AllByRecursion P ((program_of first_script).items block0) → EachItem P (program_of first_script)
first_items P each block = by (same_name block block0) refl
  where
    by : (c : Bool) → same_name block block0 ≡ c → AllByRecursion P ((program_of first_script).items block)
    by true same = rw same each
    by false other = rw other tt

pub function_edges : EdgesMatch first_function
function_edges zero = (tt, (tt, (tt, (tt, tt))))
function_edges (suc b) = tt

-- the items of the script's one block
abbrev first_list : List Item
first_list = (program_of first_script).items block0

-- the first place of the function gives 3, the next one 1, and the one behind it 2
function_named : (q : Place ℕ) (x : ℕ) → Contains ((function_code first_function).names q) x → IsGivenBefore (function_code first_function) x q
function_named q x names path walk = inr (by q.block q.index names path walk)
  where
    code : Code ℕ ℕ
    code = function_code first_function

    by : (b i : ℕ) → Contains (code.names (record { block = b; index = i })) x
        → (path : List (Place ℕ)) → IsPath code.flow (record { block = b; index = i } ∷ path) → IsGivenAlong code x path
    by zero zero names path walk = absurd (StraightLine.nothing_contained x names)
    by zero (suc zero) names path walk = absurd (StraightLine.nothing_contained x names)
    by zero (suc (suc zero)) names path walk = either (two_of 3 1 x names)
      where
        either : (3 ≡ x) ⊎ (1 ≡ x) → IsGivenAlong code x path
        either (inl three) = StraightLine.given_along code function_straight path (record { block = 0; index = 2 }) 0 x walk (omega arith) (first_of_one 3 x three)
        either (inr one) = StraightLine.given_along code function_straight path (record { block = 0; index = 2 }) 1 x walk (omega arith) (first_of_one 1 x one)
    by zero (suc (suc (suc zero))) names path walk =
        StraightLine.given_along code function_straight path (record { block = 0; index = 3 }) 2 x walk (omega arith) (first_of_one 2 x (one_of 2 x names))
    by zero (suc (suc (suc (suc i)))) names path walk = absurd (StraightLine.nothing_contained x names)
    by (suc b) i names path walk = absurd (StraightLine.nothing_contained x names)

-- it has no edges
function_passes : (b i : ℕ) → (function_code first_function).passes (record { block = b; index = i }) ≡ []
function_passes zero zero = refl
function_passes zero (suc zero) = refl
function_passes zero (suc (suc zero)) = refl
function_passes zero (suc (suc (suc zero))) = refl
function_passes zero (suc (suc (suc (suc i)))) = refl
function_passes (suc b) i = refl

pub function_well_placed : WellPlaced first_function
function_well_placed = record {
  named = function_named;
  passed = λ q x passes. absurd (StraightLine.none_of _ x (function_passes q.block q.index) passes);
}

-- the items of a block of the script: those of its one block, or none
items_of : (block : Name) → ((program_of first_script).items block ≡ first_list) ⊎ ((program_of first_script).items block ≡ [])
items_of block = by (same_name block block0) refl
  where
    by : (c : Bool) → same_name block block0 ≡ c → ((program_of first_script).items block ≡ first_list) ⊎ ((program_of first_script).items block ≡ [])
    by true same = inl (rw same refl)
    by false other = inr (rw other refl)

first_targets : (i : ℕ) → item_targets (slice_get first_list i) ≡ []
first_targets zero = refl
first_targets (suc zero) = refl
first_targets (suc (suc zero)) = refl
first_targets (suc (suc (suc zero))) = refl
first_targets (suc (suc (suc (suc zero)))) = refl
first_targets (suc (suc (suc (suc (suc zero))))) = refl
first_targets (suc (suc (suc (suc (suc (suc i)))))) = refl

program_straight : (p : Place Name) → (program_code (program_of first_script)).flow.targets p ≡ []
program_straight p = by (items_of p.block)
  where
    by : ((program_of first_script).items p.block ≡ first_list) ⊎ ((program_of first_script).items p.block ≡ [])
        → item_targets (slice_get ((program_of first_script).items p.block) p.index) ≡ []
    by (inl full) = ap (λ (items : List Item). item_targets (slice_get items p.index)) full ∙ first_targets p.index
    by (inr empty) = ap (λ (items : List Item). item_targets (slice_get items p.index)) empty

-- what an item names an earlier one gives
givers : (x : Name) (i : ℕ) → Contains (item_names (slice_get first_list i)) x → (j : ℕ) × (j < i) × Contains (item_gives (slice_get first_list j)) x
givers x zero names = absurd (StraightLine.nothing_contained x names)
givers x (suc zero) names = absurd (StraightLine.nothing_contained x names)
givers x (suc (suc zero)) names = by (two_of (answer_of 3 0) (answer_of 4 1) x names)
  where
    by : (answer_of 3 0 ≡ x) ⊎ (answer_of 4 1 ≡ x) → (j : ℕ) × (j < 2) × Contains (item_gives (slice_get first_list j)) x
    by (inl used) = (0, omega arith, first_of_one (answer_of 3 0) x used)
    by (inr constant) = (1, omega arith, first_of_one (answer_of 4 1) x constant)
givers x (suc (suc (suc zero))) names = (2, omega arith, first_of_one (answer_of 5 1) x (one_of (answer_of 5 1) x names))
givers x (suc (suc (suc (suc zero)))) names = absurd (StraightLine.nothing_contained x names)
givers x (suc (suc (suc (suc (suc zero))))) names = (4, omega arith, first_of_one (answer_of 7 0) x (one_of (answer_of 7 0) x names))
givers x (suc (suc (suc (suc (suc (suc i)))))) names = absurd (StraightLine.nothing_contained x names)

script_named : (q : Place Name) (x : Name) → Contains ((program_code (program_of first_script)).names q) x → IsGivenBefore (program_code (program_of first_script)) x q
script_named q x names path walk = inr (by (items_of q.block))
  where
    by : ((program_of first_script).items q.block ≡ first_list) ⊎ ((program_of first_script).items q.block ≡ [])
        → IsGivenAlong (program_code (program_of first_script)) x path
    by (inl full) =
        let giver = givers x q.index (subst (λ (items : List Item). Contains (item_names (slice_get items q.index)) x) full names) in
        StraightLine.given_along (program_code (program_of first_script)) program_straight path q giver.0 x walk giver.1
        (subst (λ (items : List Item). Contains (item_gives (slice_get items giver.0)) x) (sym full) giver.2)
    by (inr empty) =
        absurd (StraightLine.nothing_contained x (subst (λ (items : List Item). Contains (item_names (slice_get items q.index)) x) empty names))

passed_by : (i : ℕ) → item_passes (slice_get first_list i) ≡ []
passed_by zero = refl
passed_by (suc zero) = refl
passed_by (suc (suc zero)) = refl
passed_by (suc (suc (suc zero))) = refl
passed_by (suc (suc (suc (suc zero)))) = refl
passed_by (suc (suc (suc (suc (suc zero))))) = refl
passed_by (suc (suc (suc (suc (suc (suc i)))))) = refl

program_passes : (p : Place Name) → (program_code (program_of first_script)).passes p ≡ []
program_passes p = by (items_of p.block)
  where
    by : ((program_of first_script).items p.block ≡ first_list) ⊎ ((program_of first_script).items p.block ≡ [])
        → item_passes (slice_get ((program_of first_script).items p.block) p.index) ≡ []
    by (inl full) = ap (λ (items : List Item). item_passes (slice_get items p.index)) full ∙ passed_by p.index
    by (inr empty) = ap (λ (items : List Item). item_passes (slice_get items p.index)) empty

pub script_well_placed : IsWellPlaced (program_code (program_of first_script))
script_well_placed = record {
  named = script_named;
  passed = λ q x passes. absurd (StraightLine.none_of _ x (program_passes q) passes);
}
