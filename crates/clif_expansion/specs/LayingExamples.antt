-- Worked examples: code that decides a table of one entry, and code that negates, are laid; code that names what nothing gave, or
-- that leads elsewhere, isn't. Own.
use Rattle.std.specs.Prelude.{pos, List, [], ◌∷◌}
use Rattle.clif_types.specs.declared.condcodes.IntCC.TheVariants as cc
use Rattle.clif_types.specs.declared.types.«Type».TheVariants as type
use Rattle.clif_meaning.specs.BranchExamples.{plain}
use Rattle.clif_meaning.specs.Instruction.{Compare, Compute, Jump, Instruction}
use Rattle.clif_meaning.specs.Name.{Name, answer_of}
use Rattle.clif_meaning.specs.Program.{Item, Instruct}
use Rattle.clif_expansion.specs.Examples.{negating, of_32_bits, of_items, reading, subtracting}
use Rattle.clif_expansion.specs.Laying.{IsLaid, IsLaidProgram}
use Rattle.clif_expansion.specs.WalkExamples.{by_table, by_test, comparing, early, jumping, number}

-- the comparison without the zero that it names
abbrev pub without_zero : List Item
without_zero =
    Instruct 5 (of_32_bits (Compute (Compare cc.Equal)) (number ∷ answer_of 4 1 ∷ [])) (answer_of 5 1 ∷ [])
    ∷ Instruct 6 by_test [] ∷ []

-- to a block that the table doesn't lead to
abbrev pub elsewhere : Instruction Name Name
elsewhere = record { operation = Jump; controlling = type.Invalid; operands = []; contexts = []; edges = plain (answer_of 0 0) ∷ [] }

pub record LayingExamples : Type 0 where
  pub decides : IsLaid early jumping comparing (Instruct 4 by_table [])
  pub negates : IsLaidProgram reading (of_items (subtracting (pos 0))) (of_items negating)
  -- nothing gave the zero
  pub no_zero : IsLaid early jumping without_zero (Instruct 4 by_table []) → ⊥
  -- the table doesn't lead there
  pub no_target : IsLaid early jumping (Instruct 4 elsewhere [] ∷ []) (Instruct 4 by_table []) → ⊥
