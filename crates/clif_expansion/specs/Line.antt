-- Code in a line: instructions of which each gives its results and goes on to the next one. What it does, by the table of
-- outcomes, and that what it claims is true on the way. Own.
use Rattle.std.specs.Prelude.{◌≡◌, ℕ, IsTrue, List, [], ◌∷◌, map}
use Rattle.std.specs.List.{AllByRecursion, list_any}
use Rattle.clif_types.specs.declared.types.«Type».{«Type»}
use Rattle.clif_meaning.specs.Access.{Holds, claims_of, touched_ranges}
use Rattle.clif_meaning.specs.Bits.{Bits}
use Rattle.clif_meaning.specs.Instruction.{Instruction}
use Rattle.clif_meaning.specs.Memory.{Memory, Range, lies_in}
use Rattle.clif_meaning.specs.Name.{Name, same_name}
use Rattle.clif_meaning.specs.Outcome.{Gives, outcome_of}
use Rattle.clif_meaning.specs.Program.{Item, Instruct, Use, Assign}
use Rattle.clif_meaning.specs.Store.{assigned}
use Rattle.clif_meaning.specs.World.{World}

-- what names hold, and memory
pub record Contents : Type 0 where
  pub names : Name → Bits
  pub memory : Memory

-- each address in the range lies in one of these ranges
abbrev pub LiesWithin : List Range → Range → Type 0
LiesWithin ranges range = (address : ℕ) → IsTrue (lies_in range address) → IsTrue (list_any (λ other. lies_in other address) ranges)

-- What the instruction claims is true, and what it touches lies in these ranges.
pub record IsSafe (world : World) (types : Name → «Type») (ranges : List Range) (instruction : Instruction Name Name) (names : Name → Bits) : Type 0 where
  pub claims : AllByRecursion (Holds world)
      (claims_of world instruction.operation instruction.controlling (map types instruction.operands) (map names instruction.operands))
  pub within : AllByRecursion (LiesWithin ranges)
      (touched_ranges world instruction.operation instruction.controlling (map types instruction.operands) (map names instruction.operands))

-- the instruction gives these results and leaves this memory
pub record GivesIn (world : World) (types : Name → «Type») (ranges : List Range) (instruction : Instruction Name Name) (before : Contents) (values : List Bits) (memory : Memory) : Type 0 where
  pub gives : outcome_of world instruction.operation instruction.controlling
      (map types instruction.operands) (map before.names instruction.operands) before.memory ≡ Gives values memory
  pub safe : IsSafe world types ranges instruction before.names

-- The code leads from the one contents to the other.
abbrev pub RunsTo : World → (Name → «Type») → List Range → List Item → (before after : Contents) → Type 0
RunsTo world types ranges [] before after = after ≡ before
RunsTo world types ranges (Instruct place instruction results ∷ code) before after =
    (values : List Bits) × (memory : Memory) × GivesIn world types ranges instruction before values memory
    × RunsTo world types ranges code (record { names = assigned same_name results values before.names; memory = memory }) after
RunsTo world types ranges (Use variable name ∷ code) before after = ⊥
RunsTo world types ranges (Assign variable name ∷ code) before after = ⊥
