-- What holds of each item holds of each where the edges of one branch that lead to one block lead to another one.
use Rattle.std.proofs.Common.{ℕ, Bool, true, false, List, [], ◌∷◌, map}
use Rattle.std.specs.Prelude.{if◌then◌else◌}
use Rattle.std.specs.List.{AllByRecursion}
use Rattle.clif_meaning.specs.Name.{Name, answer_of, same_name}
use Rattle.clif_meaning.specs.Instruction.{Instruction}
use Rattle.clif_meaning.specs.Program.{Item, Instruct, Use, Assign, redirected_instruction, redirected_item}

-- what holds of each item, and of each instruction whose edges lead elsewhere
pub all_redirected : (P Q : Item → Type 0) (branch from to : Name) → ((item : Item) → P item → Q item)
    → ((place : ℕ) (instruction : Instruction Name Name) (results : List Name) → P (Instruct place instruction results) → Q (Instruct place (redirected_instruction from to instruction) results))
    → (items : List Item) → AllByRecursion P items → AllByRecursion Q (map (redirected_item branch from to) items)
all_redirected P Q branch from to stays moves [] all = tt
all_redirected P Q branch from to stays moves (Instruct place instruction results ∷ items) all =
    (by (same_name (answer_of place 0) branch), all_redirected P Q branch from to stays moves items all.1)
  where
    by : (test : Bool) → Q (Instruct place (if test then redirected_instruction from to instruction else instruction) results)
    by true = moves place instruction results all.0
    by false = stays (Instruct place instruction results) all.0
all_redirected P Q branch from to stays moves (Use variable name ∷ items) all = (stays (Use variable name) all.0, all_redirected P Q branch from to stays moves items all.1)
all_redirected P Q branch from to stays moves (Assign variable name ∷ items) all = (stays (Assign variable name) all.0, all_redirected P Q branch from to stays moves items all.1)
