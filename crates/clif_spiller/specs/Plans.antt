-- What the spiller goes by, and what it knows of a function as it goes. Source: own.
use Rattle.std.specs.Prelude.{◌≡◌, ◌<◌, ◌↔◌, ◌⊎◌, ◌-◌, ◌^◌, ℕ, [], if◌then◌else◌, Bool, true, false, List, length, Some, Contains}
use Rattle.std.specs.FinMap as map
use Rattle.clif_types.specs.EntitySet.{has}
use Rattle.clif_instructions.specs.Members.{stands_in}
use Rattle.clif_instructions.specs.declared.block_call.BlockArg.{BlockArg}
use Rattle.clif_instructions.specs.declared.block_call.BlockArg.TheVariants as arg
use Rattle.clif_ir.specs.Body.{Body, block_at, resolved, value_at}
use Rattle.clif_safepoints.specs.Analysis.{Findings, found_across}
use Rattle.clif_stack_slots.specs.Sizes.{FitsStackMap}
use Rattle.clif_stack_slots.specs.Slots.{assigned_in, free_in}
use Rattle.clif_stack_slots.specs.declared.size.SlotSize.{SlotSize}
use Rattle.clif_stack_slots.specs.declared.slots.StackSlots.{StackSlots}
use Rattle.clif_spiller.specs.declared.plan.Plan.{Plan}
use Rattle.clif_spiller.specs.Inserting.{IsReloaded}
use Rattle.clif_spiller.specs.Keeping.{Keeps}

-- a value of the function, which a stack map has room for
pub record MayBeSpilled (f : Body) (v : ℕ) : Type 0 where
  pub exists : v < length f.values
  pub fits : FitsStackMap (value_at f v).ty

-- a set with these values as members, too
abbrev pub HasMembers : (old values new : List ℕ) → Type 0
HasMembers old values new = (v : ℕ) → Contains new v ↔ (Contains old v ⊎ Contains values v)

-- the values that the stack map of some call is to name
abbrev pub AreNamed : Findings → List ℕ → Type 0
AreNamed found spilled = (v : ℕ) → Contains spilled v ↔ ((inst : ℕ) × Contains (found_across found inst) v)

-- what a plan goes by is so of the function
pub record IsPlan (f : Body) (plan : Plan) : Type 0 where
  pub named : AreNamed plan.liveness.now plan.spilled
  pub spillable : (v : ℕ) → Contains plan.spilled v → MayBeSpilled f v

-- values that have slots may be spilled, and slots are slots of the function
pub record KnowsSlots (f : Body) (slots : StackSlots) : Type 0 where
  pub values : (v slot : ℕ) → map.get (assigned_in slots) v ≡ Some slot → MayBeSpilled f v
  pub given : (v slot : ℕ) → map.get (assigned_in slots) v ≡ Some slot → slot < length f.tables.stack_slots
  pub free : (size : SlotSize) (slot : ℕ) → Contains (free_in slots size) slot → slot < length f.tables.stack_slots

-- a table has as many entries as it can have
abbrev pub IsFull : Body → Type 0
IsFull f =
    (length f.values ≡ 2 ^ 32 - 1) ⊎ (length f.insts ≡ 2 ^ 32 - 1) ⊎ (length f.blocks ≡ 2 ^ 32 - 1)
    ⊎ (length f.tables.stack_slots ≡ 2 ^ 32 - 1)

-- What is read in place of an operand: a copy, where what it stands for is spilled, else that.
abbrev pub IsReadAs : Bool → Plan → (next operand : ℕ) → Body → StackSlots → Body → StackSlots → ℕ → Type 0
IsReadAs true plan next operand f a g b new = IsReloaded plan.pointer next (resolved f operand) f a g b new
IsReadAs false plan next operand f a g b new = (g ≡ f) × (b ≡ a) × (new ≡ resolved f operand)

abbrev pub IsRead : Plan → (next operand : ℕ) → Body → StackSlots → Body → StackSlots → ℕ → Type 0
IsRead plan next operand f a g b new = IsReadAs (has plan.spilled (resolved f operand)) plan next operand f a g b new

-- The function is kept but for what comes to it, and what is known of slots is known after it.
pub record GoesOn (count : ℕ) (f : Body) (a : StackSlots) (g : Body) (b : StackSlots) : Type 0 where
  pub keeps : Keeps count f g
  pub slots : KnowsSlots g b

-- the instructions of a block, in order. A block outside the layout has none.
abbrev pub insts_inside : Body → ℕ → List ℕ
insts_inside f block = if stands_in block f.layout then (block_at f block).insts else []

-- what a call gives itself
abbrev pub OwnArgument : BlockArg → Type 0
OwnArgument (arg.Value value) = ⊥
OwnArgument (arg.TryCallRet index) = Unit {0}
OwnArgument (arg.TryCallExn part) = Unit {0}
