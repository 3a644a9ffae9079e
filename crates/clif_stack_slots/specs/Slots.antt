-- Which slot a value gets. Source: `StackSlots` of the module `safepoints` of cranelift-frontend: the slot of its size that
-- was freed last, else a new one, which is aligned to its size.
use Rattle.std.specs.Prelude.{◌≡◌, ◌≢◌, ℕ, List, [], ◌∷◌, ◌++◌, Result, Ok, Err, IfOk, Option, Some, None, OnOk, OnErr, Vec, slice_get}
use Rattle.std.specs.FinMap as map
use Rattle.std.specs.Ordering.{nat_cmp}
use Rattle.clif_types.specs.StackSlot.{StackSlotShape}
use Rattle.clif_types.specs.declared.error.BuildError.{BuildError}
use Rattle.clif_types.specs.declared.error.BuildError.TheVariants as build_error
use Rattle.clif_tables.specs.Entries.{AStackSlot}
use Rattle.clif_ir.specs.Body.{Body}
use Rattle.clif_ir.specs.Entries.{MakesIn}
use Rattle.clif_stack_slots.specs.Sizes.{bytes_in, shift_of}
use Rattle.clif_stack_slots.specs.declared.size.SlotSize.{SlotSize}
use Rattle.clif_stack_slots.specs.declared.slots.StackSlots.{StackSlots}

-- the number of each value's slot
abbrev pub SlotMap : Type 0
SlotMap = map.FinMap nat_cmp ℕ

abbrev pub assigned_in : StackSlots → SlotMap
assigned_in s = map.from_entries s.slots.entries

abbrev pub items_of : {A : Type 0} → Option (Vec ℕ A) → List ℕ
items_of None = []
items_of (Some slots) = slots.items

-- the slots of a size that are free, the one freed last at the end
abbrev pub free_in : StackSlots → SlotSize → List ℕ
free_in s size = items_of (slice_get s.free (shift_of size))

-- no value has a slot, and none is free
pub record HasNone (s : StackSlots) : Type 0 where
  pub assigned : assigned_in s ≡ map.empty
  pub free : (size : SlotSize) → free_in s size ≡ []

-- the same values have the same slots, and the same slots are free
pub record AreAlike (old new : StackSlots) : Type 0 where
  pub assigned : assigned_in new ≡ assigned_in old
  pub free : (size : SlotSize) → free_in new size ≡ free_in old size

-- these slots of one size are free now, and of the others those that were
pub record ChangesFree (size : SlotSize) (slots : List ℕ) (old new : SlotSize → List ℕ) : Type 0 where
  pub this : new size ≡ slots
  pub others : (other : SlotSize) → other ≢ size → new other ≡ old other

-- a slot that has room for a value of the size, and is aligned to it
abbrev pub slot_for : SlotSize → StackSlotShape
slot_for size = record { size = bytes_in size; align_shift = shift_of size }

-- A slot of the size is taken: of those that are free the one that was freed last, and only where there is none a new one of
-- the function.
pub record TakesSlot (size : SlotSize) (old new : SlotSize → List ℕ) (before after : Body) (answer : Result ℕ BuildError) : Type 0 where
  pub reused : (front : List ℕ) → (slot : ℕ) → old size ≡ front ++ slot ∷ [] → (answer ≡ Ok slot) × ChangesFree size front old new × (after ≡ before)
  pub made : old size ≡ [] → MakesIn (AStackSlot (slot_for size)) before after answer × ((other : SlotSize) → new other ≡ old other)
  pub err : OnErr answer (((other : SlotSize) → new other ≡ old other) × (after ≡ before))

-- A value has its slot, or gets one now. After an error all is as it was.
pub record GivesSlot (value : ℕ) (size : SlotSize) (old new : StackSlots) (before after : Body) (answer : Result ℕ BuildError) : Type 0 where
  pub known : (slot : ℕ) → map.get (assigned_in old) value ≡ Some slot → (answer ≡ Ok slot) × (new ≡ old) × (after ≡ before)
  pub taken : map.get (assigned_in old) value ≡ None → answer ≢ Err build_error.Memory → TakesSlot size (free_in old) (free_in new) before after answer
  pub given : map.get (assigned_in old) value ≡ None → IfOk answer (λ slot. assigned_in new ≡ map.insert (assigned_in old) value slot)
  pub err : OnErr answer (AreAlike old new × (after ≡ before))

-- A slot of the size is free, as the one that was freed last. After an error, which is `Memory`, all is as it was.
pub record FreesSlot (size : SlotSize) (slot : ℕ) (old new : StackSlots) (answer : Result (Unit {0}) BuildError) : Type 0 where
  pub assigned : assigned_in new ≡ assigned_in old
  pub ok : OnOk answer (ChangesFree size (free_in old size ++ slot ∷ []) (free_in old) (free_in new))
  pub err : OnErr answer ((answer ≡ Err build_error.Memory) × AreAlike old new)
