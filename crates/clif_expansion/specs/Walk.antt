-- Walks: control goes from code through generated blocks to a block, by arithmetic and by branches that pass nothing. There is no
-- event on the way, and no access to memory. How many conditional branches and how many tables there are is counted. Own.
use Rattle.std.specs.Prelude.{◌≡◌, ◌+◌, ℕ, List, [], ◌∷◌, map, Some, slice_get}
use Rattle.std.specs.List.{AllByRecursion}
use Rattle.clif_types.specs.declared.types.«Type».{«Type»}
use Rattle.clif_meaning.specs.Bits.{Bits}
use Rattle.clif_meaning.specs.Instruction.{Arithmetic, Operation, Compute, Jump, Brif, BrTable, Edge, Instruction}
use Rattle.clif_meaning.specs.Memory.{Memory}
use Rattle.clif_meaning.specs.Name.{Name, same_name}
use Rattle.clif_meaning.specs.Outcome.{Goes, Values, computed, outcome_of}
use Rattle.clif_meaning.specs.Program.{Program, Item, Instruct}
use Rattle.clif_meaning.specs.Store.{assigned}
use Rattle.clif_meaning.specs.World.{World}
use Rattle.clif_expansion.specs.Reading.{Generated, Reading}

-- what one walks through: a plain program with the types and a reading of its names, in a world
pub record Surroundings : Type 0 where
  pub world : World
  pub reading : Reading
  pub types : Name → «Type»
  pub program : Program

abbrev pub IsGenerated : Reading → Name → Type 0
IsGenerated reading name = reading name ≡ Generated

-- it goes along one of its edges, and does nothing else
abbrev pub IsBranch : Operation → Type 0
IsBranch Jump = Unit {0}
IsBranch Brif = Unit {0}
IsBranch (BrTable entries) = Unit {0}
IsBranch _ = ⊥

-- how many conditional branches it is, and how many tables
abbrev pub branch_count : Operation → ℕ
branch_count Brif = 1
branch_count _ = 0

abbrev pub table_count : Operation → ℕ
table_count (BrTable entries) = 1
table_count _ = 0

-- The branch goes along this edge, which passes nothing.
pub record Takes (around : Surroundings) (instruction : Instruction Name Name) (names : Name → Bits) (edge : Edge Name Name) : Type 0 where
  pub is_branch : IsBranch instruction.operation
  pub index : ℕ
  pub goes : (memory : Memory) → outcome_of around.world instruction.operation instruction.controlling
      (map around.types instruction.operands) (map names instruction.operands) memory ≡ Goes index [] memory
  pub there : slice_get instruction.edges index ≡ Some edge
  pub nothing : edge.arguments ≡ []

-- The instruction computes these results, which are generated names.
pub record Computes (around : Surroundings) (instruction : Instruction Name Name) (results : List Name) (names : Name → Bits) (values : List Bits) : Type 0 where
  pub arithmetic : Arithmetic
  pub is_arithmetic : instruction.operation ≡ Compute arithmetic
  pub computes : computed arithmetic instruction.controlling (map around.types instruction.operands) (map names instruction.operands) ≡ Values values
  pub generated : AllByRecursion (IsGenerated around.reading) results

-- From before these items, where names hold these bits, control comes to the block, where they hold those.
pub data Walk (around : Surroundings) (block : Name) : List Item → (before after : Name → Bits) → (branches tables : ℕ) → Type 0 where
  -- something is computed
  Computing : (place : ℕ) (instruction : Instruction Name Name) (results : List Name) (rest : List Item) (values : List Bits)
      (before after : Name → Bits) (branches tables : ℕ)
      → Computes around instruction results before values
      → Walk around block rest (assigned same_name results values before) after branches tables
      → Walk around block (Instruct place instruction results ∷ rest) before after branches tables
  -- a generated block is next
  Passing : (place : ℕ) (instruction : Instruction Name Name) (results : List Name) (rest : List Item) (edge : Edge Name Name)
      (before after : Name → Bits) (branches tables : ℕ)
      → Takes around instruction before edge
      → IsGenerated around.reading edge.target
      → Walk around block (around.program.items edge.target) before after branches tables
      → Walk around block (Instruct place instruction results ∷ rest) before after
      (branch_count instruction.operation + branches) (table_count instruction.operation + tables)
  -- the block is next
  Arriving : (place : ℕ) (instruction : Instruction Name Name) (results : List Name) (rest : List Item) (edge : Edge Name Name)
      (before : Name → Bits)
      → Takes around instruction before edge
      → edge.target ≡ block
      → Walk around block (Instruct place instruction results ∷ rest) before before
      (branch_count instruction.operation) (table_count instruction.operation)
