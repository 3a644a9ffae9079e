-- The search tree of a switch: which tests find the case of a key. Source: the module `switch` of cranelift-frontend, whose blocks
-- these are; own, that they stand in a list in which control goes forward.
use Rattle.std.specs.Prelude.{◌≡◌, ℕ, suc, ◌+◌, ◌-◌, ◌^◌, ◌≤◌, ◌<◌, ◌*◌, ◌⊎◌, ◌==◌, max, nat_lt, if◌then◌else◌, Bool, true, false, List, [], ◌∷◌, ◌++◌, length, reverse, slice_get, Option, Some, None, All, AllPairs, Contains}
use Rattle.std.specs.List.{AllByRecursion, count_by}
use Rattle.clif_ranges.specs.declared.ranges.CaseRange.{CaseRange}
use Rattle.clif_ranges.specs.declared.search.Next.{Next}
use Rattle.clif_ranges.specs.declared.search.Next.TheVariants as next
use Rattle.clif_ranges.specs.declared.search.Node.{Node}
use Rattle.clif_ranges.specs.declared.search.Test.{Test}
use Rattle.clif_ranges.specs.declared.search.Test.TheVariants as test
use Rattle.std.specs.FinMap as map
use Rattle.clif_ranges.specs.Cases.{CaseMap}
use Rattle.clif_ranges.specs.Ranges.{AreRangesOf, HasGap}

-- the block of a key in a range
abbrev pub block_in : CaseRange → ℕ → Option ℕ
block_in range key = if nat_lt key range.first then None else slice_get range.blocks.items (key - range.first)

-- the first of two that is there
abbrev pub first_of : Option ℕ → Option ℕ → Option ℕ
first_of None other = other
first_of (Some block) other = Some block

-- the block of a key's case, if it has one
abbrev pub block_of_key : List CaseRange → ℕ → Option ℕ
block_of_key [] key = None
block_of_key (range ∷ ranges) key = first_of (block_in range key) (block_of_key ranges key)

-- What a search comes to: the block of a case, or none for `otherwise`, behind so many conditional branches.
pub record Found : Type 0 where
  pub block : Option ℕ
  pub branches : ℕ

abbrev pub behind_a_branch : Found → Found
behind_a_branch found = record found { branches = suc found.branches }

-- no case was found
abbrev pub nothing_found : Found
nothing_found = record { block = None; branches = 0 }

-- where control goes next, where a search from each node finds this
abbrev pub goes_on : (ℕ → Found) → Next → Found
goes_on from next.Otherwise = nothing_found
goes_on from (next.Node number) = from number

-- what a test of a key comes to
abbrev pub tested : (ℕ → Found) → Test → (key : ℕ) → Found
tested from test.Nothing key = nothing_found
tested from (test.OneKey range other) key =
    behind_a_branch (if key == range.now.first then record { block = block_in range.now key; branches = 0 } else goes_on from other)
tested from (test.NotBelow first above other) key = behind_a_branch (if nat_lt key first then goes_on from other else from above)
tested from (test.Table range) key = record { block = block_in range.now key; branches = 0 }

-- The search for a key in nodes, from the one with this number: control goes to nodes that stand behind.
abbrev pub search : List Node → (number key : ℕ) → Found
search [] number key = nothing_found
search (node ∷ nodes) number key =
    if node.number == number then tested (λ later. search nodes later key) node.test key else search nodes number key

-- the number of the node to which control goes next
abbrev pub number_of : Next → List ℕ
number_of next.Otherwise = []
number_of (next.Node number) = number ∷ []

-- the nodes that are first named by a test, in the order in which their blocks are made
abbrev pub named_by : Test → List ℕ
named_by test.Nothing = []
named_by (test.OneKey range other) = number_of other
named_by (test.NotBelow first above other) = number_of other ++ above ∷ []
named_by (test.Table range) = []

-- numbers that follow one another, from this one on
abbrev pub AreNumbersFrom : ℕ → List ℕ → Type 0
AreNumbersFrom next [] = Unit {0}
AreNumbersFrom next (number ∷ numbers) = (number ≡ next) × AreNumbersFrom (suc next) numbers

-- Nodes that stand in order, where these were named so far and don't stand yet, the next one first: each number is new where a test
-- names it, and the node that was named last stands next. So control comes to each node from one test alone.
abbrev pub AreInOrder : (waiting : List ℕ) (next : ℕ) → List Node → Type 0
AreInOrder waiting next [] = waiting ≡ []
AreInOrder waiting next (node ∷ nodes) =
    (rest : List ℕ) × (waiting ≡ node.number ∷ rest) × AreNumbersFrom next (named_by node.test)
    × AreInOrder (reverse (named_by node.test) ++ rest) (next + length (named_by node.test)) nodes

-- each range has a key, and between two there is a gap
pub record AreSeparate (ranges : List CaseRange) : Type 0 where
  pub filled : All (λ range. 0 < length range.blocks.items) ranges
  pub gaps : AllPairs HasGap ranges

-- The search in these nodes, from the one with this number, finds the case of each key, behind at most one conditional branch more
-- than the logarithm of the number of ranges, rounded up; a table counts as none.
pub record FindsCases (ranges : List CaseRange) (nodes : List Node) (number : ℕ) : Type 0 where
  pub finds : (key : ℕ) → (search nodes number key).block ≡ block_of_key ranges key
  pub short : (k key : ℕ) → length ranges ≤ 2 ^ k → (search nodes number key).branches ≤ k + 1

-- Where the ranges are those of some cases, the search finds each key's block among the cases, and none for a key without one.
abbrev pub FindsEachKey : List CaseRange → List Node → Type 0
FindsEachKey ranges nodes =
    (cases : CaseMap) → AreRangesOf (map.entries cases) ranges → (key : ℕ) → (search nodes 0 key).block ≡ map.get cases key

-- a range of more than one key, which has a table
abbrev pub is_long : CaseRange → Bool
is_long range = nat_lt 1 (length range.blocks.items)

abbrev pub makes_table : Test → Bool
makes_table (test.Table range) = true
makes_table _ = false

abbrev pub is_table : Node → Bool
is_table node = makes_table node.test

-- The test is one of these ranges: of its key, if it has one alone, and else of its first one or of all of them.
abbrev pub IsTestOf : List CaseRange → Test → Type 0
IsTestOf ranges test.Nothing = Unit {0}
IsTestOf ranges (test.OneKey range other) = Contains ranges range.now × (length range.now.blocks.items ≡ 1)
IsTestOf ranges (test.NotBelow first above other) = (range : CaseRange) × Contains ranges range × (range.first ≡ first)
IsTestOf ranges (test.Table range) = Contains ranges range.now × (1 < length range.now.blocks.items)

-- The nodes test these ranges, and there are as many tables as ranges of more than one key.
pub record AreTestsOf (ranges : List CaseRange) (nodes : List Node) : Type 0 where
  pub tests : AllByRecursion (λ node. IsTestOf ranges node.test) nodes
  pub tables : count_by is_table nodes ≡ count_by is_long ranges

-- There are at most two nodes a range, and one for its table if it has one; or one node, where there is no range.
abbrev pub AreFew : List CaseRange → List Node → Type 0
AreFew ranges nodes = length nodes ≤ max 1 (2 * length ranges + count_by is_long ranges)

-- Nodes were added that find the cases, whatever stands behind them. Their numbers are this one and those from `next` on, below
-- `behind`.
pub record AddsNodes (ranges : List CaseRange) (next number : ℕ) (old new : List Node) (behind : ℕ) : Type 0 where
  pub added : List Node
  pub is : new ≡ old ++ added
  pub rises : next ≤ behind
  pub few : behind + 2 ≤ next + 3 * length ranges
  pub small : length added < 2 * length ranges + count_by is_long ranges
  pub numbers : All (λ node. (node.number ≡ number) ⊎ ((next ≤ node.number) × (node.number < behind))) added
  pub tests : AreTestsOf ranges added
  pub find : (rest : List Node) → FindsCases ranges (added ++ rest) number
  pub order : (waiting : List ℕ) (rest : List Node) → AreInOrder waiting behind rest → AreInOrder (number ∷ waiting) next (added ++ rest)

-- The key isn't below the range, and the search ends with the range's block of it, or with none. Or it goes on, behind a branch: the
-- range hasn't the key.
abbrev pub TestsRange : CaseRange → List Node → Next → (key : ℕ) → Found → Type 0
TestsRange range nodes other key found =
    ((range.first ≤ key) × (found.block ≡ block_in range key) × (found.branches ≤ 1))
    ⊎ ((block_in range key ≡ None) × (found ≡ behind_a_branch (goes_on (λ later. search nodes later key) other)))

-- the node comes right before this number
abbrev pub ComesBefore : Next → ℕ → Type 0
ComesBefore next.Otherwise number = Unit {0}
ComesBefore (next.Node earlier) number = earlier + 1 ≡ number

-- the number of that node, or else this number
abbrev pub first_named : Next → ℕ → ℕ
first_named next.Otherwise number = number
first_named (next.Node earlier) number = earlier

-- Nodes were added that test one range, and go on where it hasn't the key.
pub record AddsRange (range : CaseRange) (next number : ℕ) (other : Next) (old new : List Node) (behind : ℕ) : Type 0 where
  pub added : List Node
  pub is : new ≡ old ++ added
  pub rises : next ≤ behind
  pub few : behind ≤ next + 1
  pub small : length added ≤ 1 + count_by is_long (range ∷ [])
  pub numbers : All (λ node. (node.number ≡ number) ⊎ ((next ≤ node.number) × (node.number < behind))) added
  pub order : (waiting : List ℕ) (rest : List Node) → AreInOrder (number_of other ++ waiting) behind rest
      → AreInOrder (number ∷ waiting) (first_named other next) (added ++ rest)
  pub tests_of : AreTestsOf (range ∷ []) added
  pub tests : (rest : List Node) (key : ℕ) → TestsRange range rest other key (search (added ++ rest) number key)
