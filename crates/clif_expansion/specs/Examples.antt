-- A worked example: a script's item negates a number, and code performs it by a difference with zero. Own.
use Rattle.std.specs.Prelude.{◌≡◌, ℕ, zero, suc, ℤ, pos, false, List, [], ◌∷◌, Some, None}
use Rattle.clif_opcodes.specs.declared.opcodes.BinaryOpcode.TheVariants.{Isub}
use Rattle.clif_opcodes.specs.declared.opcodes.UnaryOpcode.TheVariants.{Ineg}
use Rattle.clif_types.specs.declared.types.«Type».TheVariants as type
use Rattle.clif_meaning.specs.Examples.{i32}
use Rattle.clif_meaning.specs.Instruction.{Iconst, Unary, Binary, Compute, Operation, Return, Instruction}
use Rattle.clif_meaning.specs.Machine.{HasReturned, state_after}
use Rattle.clif_meaning.specs.Name.{Name, answer_of}
use Rattle.clif_meaning.specs.Program.{Item, Instruct, Program}
use Rattle.clif_meaning.specs.ScriptMachine.{ScriptRun, script_machine}
use Rattle.clif_meaning.specs.World.{World}
use Rattle.clif_expansion.specs.Code.{NameTypes, Performs, PerformsIn}
use Rattle.clif_expansion.specs.Expansion.{IsExpandedRun}
use Rattle.clif_expansion.specs.Reading.{Generated, Reading, ScriptName, StandsFor}

-- arithmetic of 32 bits on these names
abbrev pub of_32_bits : Operation → List Name → Instruction Name Name
of_32_bits operation operands = record { operation = operation; controlling = i32; operands = operands; contexts = []; edges = [] }

abbrev pub returning : Name → Instruction Name Name
returning name = record { operation = Return; controlling = type.Invalid; operands = name ∷ []; contexts = []; edges = [] }

-- y = -x
abbrev pub negation : Instruction Name Name
negation = of_32_bits (Compute (Unary Ineg)) (answer_of 1 1 ∷ [])

-- x = 5, y = -x, return y
abbrev pub negating : List Item
negating =
    Instruct 1 (of_32_bits (Compute (Iconst (pos 5))) []) (answer_of 1 1 ∷ []) ∷ Instruct 2 negation (answer_of 2 1 ∷ [])
    ∷ Instruct 3 (returning (answer_of 2 1)) [] ∷ []

-- c = a constant, y = c - x
abbrev pub difference : ℤ → List Item
difference constant =
    Instruct 2 (of_32_bits (Compute (Iconst constant)) []) (answer_of 2 1 ∷ [])
    ∷ Instruct 3 (of_32_bits (Compute (Binary Isub)) (answer_of 2 1 ∷ answer_of 1 1 ∷ [])) (answer_of 3 1 ∷ []) ∷ []

-- x = 5, the difference, return y
abbrev pub subtracting : ℤ → List Item
subtracting constant =
    Instruct 1 (of_32_bits (Compute (Iconst (pos 5))) []) (answer_of 1 1 ∷ [])
    ∷ Instruct 2 (of_32_bits (Compute (Iconst constant)) []) (answer_of 2 1 ∷ [])
    ∷ Instruct 3 (of_32_bits (Compute (Binary Isub)) (answer_of 2 1 ∷ answer_of 1 1 ∷ [])) (answer_of 3 1 ∷ [])
    ∷ Instruct 4 (returning (answer_of 3 1)) [] ∷ []

-- What the call at the third place answers was generated, and behind it each name stands for one of an earlier place.
abbrev pub stands_at : (place index : ℕ) → StandsFor
stands_at zero index = ScriptName (answer_of 0 index)
stands_at (suc zero) index = ScriptName (answer_of 1 index)
stands_at (suc (suc zero)) index = Generated
stands_at (suc (suc (suc place))) index = ScriptName (answer_of (suc (suc place)) index)

abbrev pub reading : Reading
reading name = stands_at name.place name.index

-- the first block has these items
abbrev pub at_first : ℕ → List Item → List Item
at_first zero items = items
at_first (suc place) items = []

abbrev pub of_items : List Item → Program
of_items items = record {
  place = 0;
  current = None;
  entry = Some (answer_of 0 0);
  parameters = λ block. [];
  items = λ block. at_first block.place items;
}

-- its run: each name has 32 bits, and there is no variable
abbrev pub run_of : List Item → World → ScriptRun
run_of items world = record {
  program = of_items items;
  variable_type = λ v. i32;
  name_type = λ x. i32;
  is_marked = λ v. false;
  is_tracked = λ x. false;
  hidden = λ address. false;
  world = world;
}

abbrev pub all_32_bits : NameTypes
all_32_bits = record { plain = λ x. i32; script = λ x. i32 }

pub record ExpansionExamples (world : World) : Type 0 where
  -- the difference with zero performs the negation
  pub performs : Performs world.pointer_width reading all_32_bits (difference (pos 0)) negation (answer_of 2 1 ∷ [])
  -- the difference with one doesn't: of zero it makes one
  pub wrong : PerformsIn world reading all_32_bits negation (answer_of 3 1 ∷ []) (difference (pos 1)) (λ x. 0) (λ x. 0) world.memory → ⊥
  -- the program of the one is expanded to that of the other
  pub expanded : IsExpandedRun reading (run_of (subtracting (pos 0)) world) (run_of negating world)
  -- both answer -5
  pub script_answers : (state_after (script_machine (run_of negating world)) 3).control ≡ HasReturned (4294967291 ∷ [])
  pub plain_answers : (state_after (script_machine (run_of (subtracting (pos 0)) world)) 4).control ≡ HasReturned (4294967291 ∷ [])
