-- How many entries of each table of a function a switch makes at most. Own.
use Rattle.std.specs.Prelude.{◌≤◌, ◌+◌, ◌*◌, ℕ, suc, List, [], ◌∷◌, length}
use Rattle.clif_ranges.specs.declared.ranges.CaseRange.{CaseRange}
use Rattle.clif_ranges.specs.declared.search.Node.{Node}
use Rattle.clif_ranges.specs.declared.search.Test.{Test}
use Rattle.clif_ranges.specs.declared.search.Test.TheVariants as test
use Rattle.clif_ranges.specs.Cases.{CaseMap}
use Rattle.clif_ranges.specs.Search.{AreFew, number_of}
use Rattle.clif_meaning.specs.Name.{Name}
use Rattle.clif_meaning.specs.Sizes.{Table, Blocks, Instructions, JumpTables, Values, made_by_script}
use Rattle.clif_switch_calls.specs.SwitchCalls.{Switched, nodes_calls}
use Rattle.clif_switch_calls.specs.SwitchLaw.{SearchesCases, case_keys}

-- so many values, instructions, blocks and jump tables, and no other entries
abbrev pub so_many : (values instructions blocks tables : ℕ) → Table → ℕ
so_many values instructions blocks tables Values = values
so_many values instructions blocks tables Instructions = instructions
so_many values instructions blocks tables Blocks = blocks
so_many values instructions blocks tables JumpTables = tables
so_many values instructions blocks tables _ = 0

-- A switch of so many keys makes at most 8 values, 10 instructions, 2 blocks and a jump table for each of them, and an instruction where
-- it has none.
abbrev pub switch_makes : (keys : ℕ) → Table → ℕ
switch_makes keys = so_many (8 * keys) (10 * keys + 1) (2 * keys) keys

-- what the test of a node makes at most
abbrev pub test_makes : Test → Table → ℕ
test_makes test.Nothing = so_many 0 1 0 0
test_makes (test.OneKey range other) = so_many 4 5 (length (number_of other)) 0
test_makes (test.NotBelow first above other) = so_many 4 5 (suc (length (number_of other))) 0
test_makes (test.Table range) = so_many 8 10 1 1

-- what all nodes make at most
abbrev pub nodes_make : List Node → Table → ℕ
nodes_make [] table = 0
nodes_make (node ∷ nodes) table = test_makes node.test table + nodes_make nodes table

-- The nodes that search the cases, and their plain calls, from any place on, make at most what is said of so many keys.
pub record SwitchesMakeFew (s : Switched) (cases : CaseMap) (nodes : List Node) : Type 0 where
  pub nodes_few : (table : Table) → nodes_make nodes table ≤ switch_makes (length (case_keys cases)) table
  pub calls_few : (blocks : List Name) (tables place : ℕ) (table : Table)
      → made_by_script (nodes_calls s blocks tables nodes place) table ≤ switch_makes (length (case_keys cases)) table

abbrev pub SwitchCallsAreFew : Type 0
SwitchCallsAreFew =
    (s : Switched) (cases : CaseMap) (ranges : List CaseRange) (nodes : List Node)
    → SearchesCases s cases ranges nodes → AreFew ranges nodes → SwitchesMakeFew s cases nodes
