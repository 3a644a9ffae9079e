-- A worked example: a script's item goes by a table of one entry, and code decides it by a comparison with zero. Own.
use Rattle.std.specs.Prelude.{ℕ, zero, suc, pos, List, [], ◌∷◌, None}
use Rattle.clif_types.specs.declared.condcodes.IntCC.TheVariants as cc
use Rattle.clif_types.specs.declared.types.«Type».TheVariants as type
use Rattle.clif_meaning.specs.BranchExamples.{plain}
use Rattle.clif_meaning.specs.Examples.{i32}
use Rattle.clif_meaning.specs.Instruction.{Iconst, Compare, Compute, Jump, Brif, BrTable, Instruction}
use Rattle.clif_meaning.specs.Name.{Name, answer_of}
use Rattle.clif_meaning.specs.Program.{Item, Instruct, Program}
use Rattle.clif_meaning.specs.World.{World}
use Rattle.clif_expansion.specs.Code.{Decides}
use Rattle.clif_expansion.specs.Examples.{all_32_bits, of_32_bits}
use Rattle.clif_expansion.specs.Reading.{Generated, Reading, ScriptName, StandsFor}

-- Names of the first four calls stand for themselves; the others were generated.
abbrev pub stands_early : (place index : ℕ) → StandsFor
stands_early zero index = ScriptName (answer_of 0 index)
stands_early (suc zero) index = ScriptName (answer_of 1 index)
stands_early (suc (suc zero)) index = ScriptName (answer_of 2 index)
stands_early (suc (suc (suc zero))) index = ScriptName (answer_of 3 index)
stands_early (suc (suc (suc (suc place)))) index = Generated

abbrev pub early : Reading
early name = stands_early name.place name.index

-- the block for zero, and the one for all else
abbrev pub at_zero : Name
at_zero = answer_of 1 0

abbrev pub otherwise : Name
otherwise = answer_of 2 0

-- the number
abbrev pub number : Name
number = answer_of 3 1

-- by the number to the one block or to the other
abbrev pub by_table : Instruction Name Name
by_table = record { operation = BrTable 1; controlling = i32; operands = number ∷ []; contexts = []; edges = plain otherwise ∷ plain at_zero ∷ [] }

-- a branch by whether it is zero, to the one block or to a generated one
abbrev pub by_test : Instruction Name Name
by_test = record { operation = Brif; controlling = i32; operands = answer_of 5 1 ∷ []; contexts = []; edges = plain at_zero ∷ plain (answer_of 7 0) ∷ [] }

-- The code: zero, whether the number is zero, and the branch by that.
abbrev pub comparing : List Item
comparing =
    Instruct 4 (of_32_bits (Compute (Iconst (pos 0))) []) (answer_of 4 1 ∷ [])
    ∷ Instruct 5 (of_32_bits (Compute (Compare cc.Equal)) (number ∷ answer_of 4 1 ∷ [])) (answer_of 5 1 ∷ [])
    ∷ Instruct 6 by_test [] ∷ []

-- to the other block
abbrev pub onward : Instruction Name Name
onward = record { operation = Jump; controlling = type.Invalid; operands = []; contexts = []; edges = plain otherwise ∷ [] }

-- a program in which each block goes there
abbrev pub jumping : Program
jumping = record {
  place = 0;
  current = None;
  entry = None;
  parameters = λ block. [];
  items = λ block. Instruct 8 onward [] ∷ [];
}

pub record WalkExamples (world : World) : Type 0 where
  -- one conditional branch decides where the table goes
  pub decides : Decides world.pointer_width early all_32_bits jumping comparing by_table 1 0
  -- none does
  pub wrong : Decides world.pointer_width early all_32_bits jumping comparing by_table 0 0 → ⊥
