-- Where the spiller inserts instructions, and which ones: stores to and reloads from slots. Source: own, after Cranelift's spiller of
-- safepoints. An inserted instruction has no source place.
use Rattle.std.specs.Prelude.{◌≡◌, ◌+◌, ◌-◌, ◌^◌, ℕ, pos, List, [], ◌∷◌, length, Some, None, true, Ok}
use Rattle.clif_types.specs.declared.types.«Type».{«Type»}
use Rattle.clif_types.specs.MemFlags.{MemFlagsShape}
use Rattle.clif_opcodes.specs.declared.opcodes.StackOpcode.TheVariants.{StackAddr}
use Rattle.clif_instructions.specs.declared.insert_at.InsertAt.TheVariants.{Behind}
use Rattle.clif_instructions.specs.declared.instructions.InstructionData.{InstructionData}
use Rattle.clif_instructions.specs.declared.instructions.InstructionData.TheVariants.{Load, Store, StackLoad}
use Rattle.clif_ir.specs.Body.{Body, inst_at, value_at}
use Rattle.clif_ir.specs.Changes.{with_inst}
use Rattle.clif_ir.specs.Reading.{place_in_block}
use Rattle.clif_stack_slots.specs.Sizes.{size_of_type}
use Rattle.clif_stack_slots.specs.Slots.{GivesSlot}
use Rattle.clif_stack_slots.specs.declared.size.SlotSize.{SlotSize}
use Rattle.clif_stack_slots.specs.declared.slots.StackSlots.{StackSlots}
use Rattle.clif_spiller.specs.declared.accesses.Spot.{Spot}
use Rattle.clif_spiller.specs.declared.accesses.Spot.TheVariants as spot

-- no source place
abbrev pub nowhere : ℕ
nowhere = 2 ^ 32 - 1

-- the instruction that a spot is beside
abbrev pub inst_beside : Spot → ℕ
inst_beside (spot.Before next) = next
inst_beside (spot.After previous) = previous

-- with a new instruction at a spot
abbrev pub put_in : Body → Spot → InstructionData → List «Type» → Body
put_in f (spot.Before next) shape types = with_inst f (inst_at f next).block (Behind (place_in_block f next)) shape types nowhere
put_in f (spot.After previous) shape types =
    with_inst f (inst_at f previous).block (Behind (place_in_block f previous + 1)) shape types nowhere

-- where the next instruction goes after one that was put at a spot
abbrev pub spot_after : Body → Spot → Spot
spot_after f (spot.Before next) = spot.Before next
spot_after f (spot.After previous) = spot.After (length f.insts)

-- accesses to slots can't trap, and are aligned
abbrev pub trusted : MemFlagsShape
trusted = record { notrap = true; aligned = true; alias_region = None }

-- with the address of a slot at a spot, a new value of the type of pointers
abbrev pub with_address : Body → «Type» → Spot → (slot : ℕ) → Body
with_address f pointer at slot = put_in f at (StackLoad StackAddr slot (pos 0)) (pointer ∷ [])

-- with a store of a value in a slot at a spot: the address, and the store
abbrev pub with_store : Body → «Type» → Spot → (slot value : ℕ) → Body
with_store f pointer at slot value =
    put_in (with_address f pointer at slot) (spot_after f at) (Store trusted (value ∷ length f.values ∷ []) (pos 0)) []

-- with a reload of a value of this type from a slot right before an instruction: the address, and the load, which gives a copy
abbrev pub with_reload : Body → «Type» → (next slot : ℕ) → «Type» → Body
with_reload f pointer next slot ty =
    put_in (with_address f pointer (spot.Before next) slot) (spot.Before next) (Load trusted (length f.values) (pos 0)) (ty ∷ [])

abbrev pub copy_in : Body → ℕ
copy_in f = length f.values + 1

-- A value is reloaded before an instruction: its slot, which it has or is given, is read into a copy.
pub record IsReloaded (pointer : «Type») (next value : ℕ) (f : Body) (a : StackSlots) (g : Body) (b : StackSlots) (copy : ℕ) : Type 0 where
  pub size : SlotSize
  pub size_is : size_of_type (value_at f value).ty ≡ Some size
  pub slot : ℕ
  pub middle : Body
  pub gives : GivesSlot value size a b f middle (Ok slot)
  pub put : g ≡ with_reload middle pointer next slot (value_at f value).ty
  pub copy_is : copy ≡ copy_in middle
