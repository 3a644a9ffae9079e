-- What holds of each item of a program, and of each parameter of the caller's, where there is one item more, or more parameters.
use Rattle.std.proofs.Common.{◌≡◌, Bool, true, false, List, [], ◌∷◌, ◌++◌, Option, Some, None, refl}
use Rattle.std.specs.Prelude.{if◌then◌else◌}
use Rattle.std.specs.List.{AllByRecursion}
use Rattle.clif_meaning.specs.Name.{Name, same_name}
use Rattle.clif_meaning.specs.Program.{Item, Program, with_item_at, with_parameters}
use Rattle.clif_simulation.proofs.Carrying.{all_append}

-- an item at the end of the current block
pub items_with : (P : Item → Type 0) (program : Program) (current : Option Name) (item : Item)
    → ((block : Name) → AllByRecursion P (program.items block)) → P item
    → (block : Name) → AllByRecursion P ((with_item_at program current item).items block)
items_with P program None item all one block = all block
items_with P program (Some current) item all one block = by (same_name block current)
  where
    by : (t : Bool) → AllByRecursion P (if t then program.items block ++ item ∷ [] else program.items block)
    by true = all_append P (program.items block) (item ∷ []) (all block) (one, tt)
    by false = all block

pub parameters_leave : (program : Program) (current : Option Name) (item : Item) → (with_item_at program current item).parameters ≡ program.parameters
parameters_leave program None item = refl
parameters_leave program (Some current) item = refl

pub parameters_with : (Q : Name → Type 0) (program : Program) (names : List Name) (taking : Name) → ((block : Name) → AllByRecursion Q (program.parameters block))
    → AllByRecursion Q names → (block : Name) → AllByRecursion Q ((with_parameters program taking names).parameters block)
parameters_with Q program names taking all are block = by (same_name block taking)
  where
    by : (t : Bool) → AllByRecursion Q (if t then program.parameters block ++ names else program.parameters block)
    by true = all_append Q (program.parameters block) names (all block) are
    by false = all block
