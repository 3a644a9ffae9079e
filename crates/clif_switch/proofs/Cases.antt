-- The blocks of cases are those of the ranges and tests.
use Rattle.std.proofs.Common.{◌≡◌, ◌+◌, ℕ, suc, Some, List, [], ◌∷◌, ◌++◌, map, get_or, refl, sym, ◌∙◌, ap, subst, arith, inl, inr, cond}
use Rattle.std.specs.Prelude.{All, Contains}
use Rattle.std.specs.List.{AllByRecursion, count_by, enumerate_from, flat_map}
use Rattle.std.proofs.lemmas.List.{map-append}
use Rattle.std.proofs.lemmas.List.Elements.{All-contains, All-contains_itself, All-from_recursion}
use Rattle.std.proofs.lemmas.List.Recursion.{is_count_by}
use Rattle.clif_ranges.specs.declared.ranges.CaseRange.{CaseRange}
use Rattle.clif_ranges.specs.declared.search.Node.{Node}
use Rattle.clif_ranges.specs.declared.search.Test.{Test}
use Rattle.clif_ranges.specs.declared.search.Test.TheVariants as test
use Rattle.std.specs.FinMap as finite
use Rattle.clif_ranges.specs.Cases.{CaseMap}
use Rattle.clif_ranges.proofs.Keys.{has_block, of_key, of_ranges}
use Rattle.clif_ranges.specs.Ranges.{AreRangesOf, cases_of}
use Rattle.clif_ranges.specs.Search.{AreSeparate, AreTestsOf, IsTestOf, is_table}
use Rattle.clif_expansion.specs.Keys.{table_count}
use Rattle.clif_expansion.proofs.Placing.{contained_first, contained_in, contained_later, contained_left}
use Rattle.clif_switch_calls.specs.SwitchCalls.{tables_of}
use Rattle.clif_switch_calls.proofs.Counted.{tables_counted}
use Rattle.clif_switch_calls.proofs.Targets.{case_found}
use Rattle.clif_switch.specs.Emission.{HasItsBlock, cases_in, tables_in}

abbrev pub blocks_of_cases : List (ℕ × ℕ) → List ℕ
blocks_of_cases entries = map (λ case. case.1) entries

range_blocks : (first : ℕ) (items : List ℕ) → blocks_of_cases (enumerate_from first items) ≡ items
range_blocks first [] = refl
range_blocks first (block ∷ items) = ap (λ (list : List ℕ). block ∷ list) (range_blocks (first + 1) items)

contained_right : {X : Type 0} (xs ys : List X) (y : X) → Contains ys y → Contains (xs ++ ys) y
contained_right [] ys y here = here
contained_right (x ∷ xs) ys y here = let later = contained_right xs ys y here in (suc later.0, omega (arith, later.1), later.2)

-- each block of a range is that of a case
range_contained : (ranges : List CaseRange) (range : CaseRange) (block : ℕ) → Contains ranges range → Contains range.blocks.items block → Contains (blocks_of_cases (flat_map cases_of ranges)) block
range_contained [] range block here is = absurd (omega (arith, here.1))
range_contained (one ∷ ranges) range block here is =
    let later : Contains ranges range → Contains (blocks_of_cases (flat_map cases_of ranges)) block = λ further. range_contained ranges range block further is in
    subst (λ (list : List ℕ). Contains list block) (sym (map-append (λ (case : ℕ × ℕ). case.1) (cases_of one) (flat_map cases_of ranges)))
    (elim (contained_in one ranges range here) [
      | inl same ↦ contained_left (blocks_of_cases (cases_of one)) (blocks_of_cases (flat_map cases_of ranges)) block
          (subst (λ (list : List ℕ). Contains list block) (sym (range_blocks one.first one.blocks.items)) (subst (λ (r : CaseRange). Contains r.blocks.items block) (sym same) is))
      | inr further ↦ contained_right (blocks_of_cases (cases_of one)) (blocks_of_cases (flat_map cases_of ranges)) block (later further)
    ])

module _ (entries : List (ℕ × ℕ)) (ranges : List CaseRange) (are : AreRangesOf entries ranges) where
  of_range : (range : CaseRange) → Contains ranges range → All (Contains (blocks_of_cases entries)) range.blocks.items
  of_range range here k d below =
      subst (λ (list : List (ℕ × ℕ)). Contains (blocks_of_cases list) (get_or range.blocks.items k d)) are.cases
      (range_contained ranges range (get_or range.blocks.items k d) here (All-contains_itself range.blocks.items k d below))

  -- the blocks of a test's cases are blocks of cases
  pub test_cases : (t : Test) → IsTestOf ranges t → All (Contains (blocks_of_cases entries)) (cases_in t)
  test_cases test.Nothing is = λ k d below. absurd (omega (arith, below))
  test_cases (test.OneKey range other) is = of_range range.now is.0
  test_cases (test.NotBelow first above other) is = λ k d below. absurd (omega (arith, below))
  test_cases (test.Table range) is = of_range range.now is.0

  pub all_cases : (nodes : List Node) → AllByRecursion (λ node. IsTestOf ranges node.test) nodes → AllByRecursion (λ node. All (Contains (blocks_of_cases entries)) (cases_in node.test)) nodes
  all_cases [] are = tt
  all_cases (node ∷ nodes) are = (test_cases node.test are.0, all_cases nodes are.1)

  -- as many tables as ranges of more than one key
  pub tables_are : (nodes : List Node) → AreTestsOf ranges nodes → tables_in nodes ≡ table_count (map (λ case. case.0) entries) (map (λ case. case.0) entries)
  tables_are nodes tests = counted nodes ∙ tests.tables ∙ sym (tables_counted entries ranges are)
    where
      one : (t : Test) (n : ℕ) → tables_of t + n ≡ cond (is_table (record { number = 0; test = t })) (1 + n) n
      one test.Nothing n = omega arith
      one (test.OneKey range other) n = omega arith
      one (test.NotBelow first above other) n = omega arith
      one (test.Table range) n = refl

      counted : (all : List Node) → tables_in all ≡ count_by is_table all
      counted all = is_count_by tables_in is_table refl (λ node more. one node.test (tables_in more)) all

its_block : (ranges : List CaseRange) (t : Test) → IsTestOf ranges t → HasItsBlock t
its_block ranges test.Nothing is = tt
its_block ranges (test.OneKey range other) is = let one = is.1 in omega (arith, one)
its_block ranges (test.NotBelow first above other) is = tt
its_block ranges (test.Table range) is = tt

pub all_blocks : (ranges : List CaseRange) (nodes : List Node) → AllByRecursion (λ node. IsTestOf ranges node.test) nodes → AllByRecursion (λ node. HasItsBlock node.test) nodes
all_blocks ranges [] are = tt
all_blocks ranges (node ∷ nodes) are = (its_block ranges node.test are.0, all_blocks ranges nodes are.1)

-- what holds of the blocks of cases holds of those of tests
pub all_hold : (P : ℕ → Type 0) (blocks : List ℕ) → All P blocks → (nodes : List Node) → AllByRecursion (λ node. All (Contains blocks) (cases_in node.test)) nodes → AllByRecursion (λ node. All P (cases_in node.test)) nodes
all_hold P blocks all [] are = tt
all_hold P blocks all (node ∷ nodes) are = (λ k d below. All-contains P blocks _ all (are.0 k d below), all_hold P blocks all nodes are.1)

-- the ranges of cases are separate
pub separate : (entries : List (ℕ × ℕ)) (ranges : List CaseRange) → AreRangesOf entries ranges → AreSeparate ranges
separate entries ranges are = record { filled = are.filled; gaps = are.gaps }

-- an entry of the map is what the map has for its key
pub entry_found : (cases : CaseMap) (ranges : List CaseRange) → AreRangesOf (finite.entries cases) ranges → (case : ℕ × ℕ) → Contains (finite.entries cases) case
    → finite.get cases case.0 ≡ Some case.1
entry_found cases ranges are case here =
    sym (has_block cases ranges are case.0) ∙ sym (of_ranges case.0 ranges) ∙ ap (of_key case.0) are.cases ∙ case_found (finite.entries cases) ranges are case here

-- what holds of the block of each key holds of the blocks of all cases
pub each_case : (P : ℕ → Type 0) (cases : CaseMap) (ranges : List CaseRange) → AreRangesOf (finite.entries cases) ranges → ((key block : ℕ) → finite.get cases key ≡ Some block → P block)
    → All P (blocks_of_cases (finite.entries cases))
each_case P cases ranges are holds = of_list (finite.entries cases) (λ case here. holds case.0 case.1 (entry_found cases ranges are case here))
  where
    of_list : (entries : List (ℕ × ℕ)) → ((case : ℕ × ℕ) → Contains entries case → P case.1) → All P (blocks_of_cases entries)
    of_list entries each k d below = of_recursion (blocks_of_cases entries) (over entries each) k d below
      where
        over : (list : List (ℕ × ℕ)) → ((case : ℕ × ℕ) → Contains list case → P case.1) → AllByRecursion P (blocks_of_cases list)
        over [] each = tt
        over (case ∷ list) each = (each case (contained_first case list), over list (λ other here. each other (contained_later case list other here)))

        of_recursion : (list : List ℕ) → AllByRecursion P list → All P list
        of_recursion list all = All-from_recursion P list all
