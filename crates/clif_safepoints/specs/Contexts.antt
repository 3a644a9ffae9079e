-- Contexts of try calls that are recorded. Source: own. A collector can't reach what an unwinder keeps of a context.
use Rattle.std.specs.Prelude.{◌≡◌, ◌<◌, ◌≤◌, ◌↔◌, ℕ, Bool, true, false, List, length, Option, Some, None, Contains}
use Rattle.clif_types.specs.EntitySet.{has}
use Rattle.clif_instructions.specs.declared.exception_table.ExceptionItem.{ExceptionItem}
use Rattle.clif_instructions.specs.declared.exception_table.ExceptionItem.TheVariants as item
use Rattle.clif_instructions.specs.Instruction.{contexts}
use Rattle.clif_ir.specs.Body.{Body, inst_at, resolved}
use Rattle.clif_meaning.specs.Path.{IsReachable}
use Rattle.clif_meaning.specs.View.{view_of}
use Rattle.clif_meaning.specs.WellPlaced.{function_flow}
use Rattle.clif_safepoints.specs.Analysis.{IsReached, place_of_inst}
use Rattle.clif_number_sets.specs.Sets.{is_in}

-- a path from the entry comes to the instruction, and one of its contexts, after aliases, is recorded
pub record HasTrackedContext (f : Body) (recorded : List ℕ) (inst : ℕ) : Type 0 where
  pub exists : inst < length f.insts
  pub reachable : IsReachable (function_flow (view_of f)) (place_of_inst f inst)
  pub context : (value : ℕ) × Contains (contexts (inst_at f inst).shape) value × Contains recorded (resolved f value)

-- the first such instruction by its number, if there is one
abbrev pub IsFirstTracked : Body → List ℕ → Option ℕ → Type 0
IsFirstTracked f recorded None = (i : ℕ) → HasTrackedContext f recorded i → ⊥
IsFirstTracked f recorded (Some inst) =
    HasTrackedContext f recorded inst × ((i : ℕ) → HasTrackedContext f recorded i → inst ≤ i)

-- the item names a recorded context
abbrev pub item_is_tracked : Body → List ℕ → ExceptionItem → Bool
item_is_tracked f recorded (item.Tag tag) = false
item_is_tracked f recorded item.Default = false
item_is_tracked f recorded (item.Context value) = has recorded (resolved f value)

-- the blocks that are reached
pub record AreReached (f : Body) (marks : List Bool) : Type 0 where
  pub size : length marks ≡ length f.blocks
  pub members : (block : ℕ) → (is_in marks block ≡ true) ↔ IsReached (view_of f) block
