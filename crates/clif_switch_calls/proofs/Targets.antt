-- The targets of a switch, and its ranges.
use Rattle.std.proofs.Common.{◌≡◌, ◌<◌, ◌≤◌, ◌+◌, ℕ, suc, Bool, true, false, List, [], ◌∷◌, ◌++◌, length, map, refl, sym, ◌∙◌, ap, subst, arith, inl, inr, Some, cond}
use Rattle.std.specs.Prelude.{◌⊎◌, ◌^◌, ◌==◌, All, Contains, IsTrue}
use Rattle.std.specs.List.{AllByRecursion, enumerate_from, flat_map}
use Rattle.std.proofs.lemmas.Bool.{ne_eqb}
use Rattle.std.proofs.lemmas.Bool.Decides.{nat_tests}
use Rattle.std.proofs.lemmas.List.Elements.{All-contains, recursion_from_All}
use Rattle.clif_types.specs.declared.types.LaneType.TheVariants as lane
use Rattle.clif_types.specs.declared.types.«Type».{«Type»}
use Rattle.clif_types.specs.declared.types.«Type».TheVariants as type
use Rattle.clif_types.specs.Types.{bits_of, greatest_of, is_int}
use Rattle.clif_ranges.specs.declared.ranges.CaseRange.{CaseRange}
use Rattle.clif_ranges.specs.Cases.{FitsTable}
use Rattle.clif_ranges.specs.Ranges.{AreRangesOf, cases_of, end_of}
use Rattle.clif_ranges.proofs.Keys.{of_key}
use Rattle.clif_meaning.specs.Name.{Name}
use Rattle.clif_expansion.specs.Switching.{targets_of}
use Rattle.clif_expansion.proofs.Placing.{contained_first, contained_in, contained_later, none_contained}
use Rattle.clif_switch_calls.specs.SwitchCalls.{Switched}
use Rattle.clif_switch_calls.proofs.Counted.{Separate, edges_from, separate}
use Rattle.clif_switch_calls.proofs.Searched.{Fits}

-- NAMES -------------------------------------------------------------------------------------------------------------------

-- the blocks of cases, and that of all other keys
abbrev pub names_from : Switched → List (ℕ × ℕ) → List Name
names_from s [] = s.otherwise ∷ []
names_from s (case ∷ entries) = s.named case.1 ∷ names_from s entries

pub targets_so : (s : Switched) (entries : List (ℕ × ℕ)) → targets_of (edges_from s entries) ≡ names_from s entries
targets_so s [] = refl
targets_so s (case ∷ entries) = ap (λ (names : List Name). s.named case.1 ∷ names) (targets_so s entries)

pub otherwise_named : (s : Switched) (entries : List (ℕ × ℕ)) → Contains (names_from s entries) s.otherwise
otherwise_named s [] = contained_first s.otherwise []
otherwise_named s (case ∷ entries) = contained_later (s.named case.1) (names_from s entries) s.otherwise (otherwise_named s entries)

-- of names that are behind others in the list
later_named : (s : Switched) (first second : List (ℕ × ℕ)) (x : Name) → Contains (names_from s second) x → Contains (names_from s (first ++ second)) x
later_named s [] second x here = here
later_named s (case ∷ first) second x here = contained_later (s.named case.1) (names_from s (first ++ second)) x (later_named s first second x here)

blocks_named : (s : Switched) (first : ℕ) (blocks : List ℕ) (more : List (ℕ × ℕ)) → AllByRecursion (λ x. Contains (names_from s (enumerate_from first blocks ++ more)) x) (map s.named blocks)
blocks_named s first [] more = tt
blocks_named s first (block ∷ blocks) more =
    (contained_first (s.named block) (names_from s (enumerate_from (first + 1) blocks ++ more)), later (map s.named blocks) (blocks_named s (first + 1) blocks more))
  where
    later : (names : List Name) → AllByRecursion (λ x. Contains (names_from s (enumerate_from (first + 1) blocks ++ more)) x) names
        → AllByRecursion (λ x. Contains (s.named block ∷ names_from s (enumerate_from (first + 1) blocks ++ more)) x) names
    later [] all = tt
    later (x ∷ names) all = (contained_later (s.named block) (names_from s (enumerate_from (first + 1) blocks ++ more)) x all.0, later names all.1)

each_later : (s : Switched) (first second : List (ℕ × ℕ)) (names : List Name) → AllByRecursion (λ x. Contains (names_from s second) x) names → AllByRecursion (λ x. Contains (names_from s (first ++ second)) x) names
each_later s first second [] all = tt
each_later s first second (x ∷ names) all = (later_named s first second x all.0, each_later s first second names all.1)

-- the blocks of a range's cases are among them
pub range_named : (s : Switched) (ranges : List CaseRange) (range : CaseRange) → Contains ranges range
    → AllByRecursion (λ x. Contains (names_from s (flat_map cases_of ranges)) x) (map s.named range.blocks.items)
range_named s [] range here = absurd (none_contained range here)
range_named s (first ∷ ranges) range here =
    let later : Contains ranges range → AllByRecursion (λ x. Contains (names_from s (flat_map cases_of ranges)) x) (map s.named range.blocks.items) = range_named s ranges range in
    elim (contained_in first ranges range here) [
      | inl same ↦
          subst (λ (r : CaseRange). AllByRecursion (λ x. Contains (names_from s (flat_map cases_of (first ∷ ranges))) x) (map s.named r.blocks.items)) same
          (blocks_named s first.first first.blocks.items (flat_map cases_of ranges))
      | inr further ↦ each_later s (cases_of first) (flat_map cases_of ranges) (map s.named range.blocks.items) (later further)
    ]

-- KEYS --------------------------------------------------------------------------------------------------------------------

-- each key is greater than those before it, and not below the bound
abbrev Rising : ℕ → List (ℕ × ℕ) → Type 0
Rising bound [] = Unit {0}
Rising bound (case ∷ entries) = (bound ≤ case.0) × Rising (suc case.0) entries

rising_from : (low high : ℕ) (entries : List (ℕ × ℕ)) → low ≤ high → Rising high entries → Rising low entries
rising_from low high [] less rising = tt
rising_from low high (case ∷ entries) less rising = (omega (arith, less, rising.0), rising.1)

rising_range : (first : ℕ) (blocks : List ℕ) (more : List (ℕ × ℕ)) → Rising (first + length blocks) more → Rising first (enumerate_from first blocks ++ more)
rising_range first [] more rising = rising_from first (first + 0) more (omega arith) rising
rising_range first (block ∷ blocks) more rising = (
  omega arith,
  rising_from (suc first) (first + 1) (enumerate_from (first + 1) blocks ++ more) (omega arith)
      (rising_range (first + 1) blocks more (rising_from (first + 1 + length blocks) (first + suc (length blocks)) more (omega arith) rising)),
)

rising_ranges : (ranges : List CaseRange) (bound : ℕ) → Separate [] ranges → AllByRecursion (λ range. bound ≤ range.first) ranges → Rising bound (flat_map cases_of ranges)
rising_ranges [] bound apart above = tt
rising_ranges (range ∷ ranges) bound apart above =
    rising_from bound range.first (cases_of range ++ flat_map cases_of ranges) above.0
    (rising_range range.first range.blocks.items (flat_map cases_of ranges) (rising_ranges ranges (end_of range) apart.1 (ends ranges apart.0)))
  where
    ends : (others : List CaseRange) → AllByRecursion (λ other. end_of range < other.first) others → AllByRecursion (λ other. end_of range ≤ other.first) others
    ends [] all = tt
    ends (other ∷ others) all = (omega (arith, all.0), ends others all.1)

rising_above : (bound : ℕ) (entries : List (ℕ × ℕ)) (case : ℕ × ℕ) → Rising bound entries → Contains entries case → bound ≤ case.0
rising_above bound [] case rising here = absurd (none_contained case here)
rising_above bound (first ∷ entries) case rising here =
    let later : Contains entries case → suc first.0 ≤ case.0 = rising_above (suc first.0) entries case rising.1 in
    elim (contained_in first entries case here) [
      | inl same ↦ subst (λ (c : ℕ × ℕ). bound ≤ c.0) same rising.0
      | inr further ↦ let over = later further in omega (arith, over, rising.0)
    ]

-- each case is found by its key
rising_found : (bound : ℕ) (entries : List (ℕ × ℕ)) (case : ℕ × ℕ) → Rising bound entries → Contains entries case → of_key case.0 entries ≡ Some case.1
rising_found bound [] case rising here = absurd (none_contained case here)
rising_found bound (first ∷ entries) case rising here =
    let later : Contains entries case → of_key case.0 entries ≡ Some case.1 = rising_found (suc first.0) entries case rising.1 in
    elim (contained_in first entries case here) [
      | inl same ↦
          subst (λ (c : ℕ × ℕ). of_key c.0 (first ∷ entries) ≡ Some c.1) same
          (let is : (first.0 == first.0) ≡ true = grind (arith, nat_tests) in ap (λ (c : Bool). cond c (Some first.1) (of_key first.0 entries)) is)
      | inr further ↦
          let over = rising_above (suc first.0) entries case rising.1 further in
          ap (λ (c : Bool). cond c (Some first.1) (of_key case.0 entries)) (ne_eqb case.0 first.0 (λ same. omega (arith, same, over))) ∙ later further
    ]

pub case_found : (entries : List (ℕ × ℕ)) (ranges : List CaseRange) → AreRangesOf entries ranges → (case : ℕ × ℕ) → Contains entries case → of_key case.0 entries ≡ Some case.1
case_found entries ranges are case here =
    rising_found 0 entries case
    (subst (Rising 0) are.cases (rising_ranges ranges 0 (separate ranges are.gaps) (recursion_from_All (λ r. 0 ≤ r.first) ranges (λ i d inside. omega arith)))) here

-- a target is that of a case, or of no case
pub target_case : (s : Switched) (entries : List (ℕ × ℕ)) (target : Name) → Contains (names_from s entries) target
    → ((case : ℕ × ℕ) × Contains entries case × (s.named case.1 ≡ target)) ⊎ (s.otherwise ≡ target)
target_case s [] target here =
    elim (contained_in s.otherwise [] target here) [
      | inl same ↦ inr same
      | inr further ↦ absurd (none_contained target further)
    ]
target_case s (case ∷ entries) target here =
    let later : Contains (names_from s entries) target → ((one : ℕ × ℕ) × Contains entries one × (s.named one.1 ≡ target)) ⊎ (s.otherwise ≡ target) = target_case s entries target in
    elim (contained_in (s.named case.1) (names_from s entries) target here) [
      | inl same ↦ inl (case, contained_first case entries, same)
      | inr further ↦ elim (later further) [
        | inl found ↦ inl (found.0, contained_later case entries found.0 found.1, found.2)
        | inr other ↦ inr other
      ]
    ]

-- FITS --------------------------------------------------------------------------------------------------------------------

part_all : (P : ℕ × ℕ → Type 0) (first second : List (ℕ × ℕ)) → AllByRecursion P (first ++ second) → AllByRecursion P first × AllByRecursion P second
part_all P [] second all = (tt, all)
part_all P (case ∷ first) second all = let rest = part_all P first second all.1 in ((all.0, rest.0), rest.1)

range_all : (P : ℕ × ℕ → Type 0) (ranges : List CaseRange) (range : CaseRange) → AllByRecursion P (flat_map cases_of ranges) → Contains ranges range → AllByRecursion P (cases_of range)
range_all P [] range all here = absurd (none_contained range here)
range_all P (first ∷ ranges) range all here =
    let parts = part_all P (cases_of first) (flat_map cases_of ranges) all in
    let later : Contains ranges range → AllByRecursion P (cases_of range) = range_all P ranges range parts.1 in
    elim (contained_in first ranges range here) [
      | inl same ↦ subst (λ (r : CaseRange). AllByRecursion P (cases_of r)) same parts.0
      | inr further ↦ later further
    ]

last_below : (greatest first : ℕ) (blocks : List ℕ) → 0 < length blocks → AllByRecursion (λ case. case.0 ≤ greatest) (enumerate_from first blocks) → first + length blocks ≤ suc greatest
last_below greatest first [] some all = absurd (omega (arith, some))
last_below greatest first (block ∷ []) some all = omega (arith, all.0)
last_below greatest first (block ∷ (next ∷ blocks)) some all =
    let rest = last_below greatest (first + 1) (next ∷ blocks) (omega arith) all.1 in omega (arith, rest)

-- an integer type has a greatest number
pub greatest_so : (ty : «Type») → IsTrue (is_int ty) → suc (greatest_of ty false) ≡ 2 ^ bits_of ty
greatest_so (type.Lane lane.I8) int = refl
greatest_so (type.Lane lane.I16) int = refl
greatest_so (type.Lane lane.I32) int = refl
greatest_so (type.Lane lane.I64) int = refl
greatest_so (type.Lane lane.I128) int = refl
greatest_so type.Invalid int = let none : ⊥ = cc in absurd none
greatest_so (type.Vector l n) int = let none : ⊥ = cc in absurd none
greatest_so (type.Lane lane.F16) int = let none : ⊥ = cc in absurd none
greatest_so (type.Lane lane.F32) int = let none : ⊥ = cc in absurd none
greatest_so (type.Lane lane.F64) int = let none : ⊥ = cc in absurd none
greatest_so (type.Lane lane.F128) int = let none : ⊥ = cc in absurd none

pub fits_of : (ty : «Type») (entries : List (ℕ × ℕ)) (ranges : List CaseRange) → IsTrue (is_int ty) → All (λ case. case.0 ≤ greatest_of ty false) entries → AreRangesOf entries ranges → All FitsTable ranges
    → (range : CaseRange) → Contains ranges range → Fits ty range
fits_of ty entries ranges int fit are tables range here =
    let some = All-contains (λ (r : CaseRange). 0 < length r.blocks.items) ranges range are.filled here in
    let all = range_all (λ case. case.0 ≤ greatest_of ty false) ranges range
    (subst (AllByRecursion (λ case. case.0 ≤ greatest_of ty false)) (sym are.cases) (recursion_from_All (λ case. case.0 ≤ greatest_of ty false) entries fit)) here in
    record {
      some = some;
      keys = subst (λ (n : ℕ). range.first + length range.blocks.items ≤ n) (greatest_so ty int) (last_below (greatest_of ty false) range.first range.blocks.items some all);
      short = All-contains FitsTable ranges range tables here;
    }
