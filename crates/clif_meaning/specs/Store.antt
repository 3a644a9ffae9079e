-- Places that hold bits, as functions, and memory with spill slots left out. Shared by both machines. Own.
use Rattle.std.specs.Prelude.{ℕ, suc, ◌+◌, nat_lt, nat_le, ◌&&◌, ◌||◌, if◌then◌else◌, Bool, false, List, [], ◌∷◌}
use Rattle.clif_types.specs.StackSlot.{StackSlotShape}
use Rattle.clif_meaning.specs.Bits.{Bits}
use Rattle.clif_meaning.specs.Memory.{Memory}
use Rattle.clif_meaning.specs.Instruction.{Argument, Known, CallResult, CallPayload}
use Rattle.clif_meaning.specs.World.{World}
use Rattle.std.specs.List.{slice_index}

-- these places, told apart by the test, get these bits, all at once; the others keep theirs
abbrev pub assigned : {Place : Type 0} → (Place → Place → Bool) → List Place → List Bits → (Place → Bits) → Place → Bits
assigned same [] values old = old
assigned same (place ∷ places) [] old = old
assigned same (place ∷ places) (bits ∷ values) old = λ other. if same other place then bits else assigned same places values old other

-- the bits that an edge passes. What a try call gives is there on its own edges alone.
abbrev pub argument_bits : {Operand : Type 0} → (Operand → Bits) → List Bits → Argument Operand → Bits
argument_bits bits given (Known operand) = bits operand
argument_bits bits given (CallResult index) = slice_index given index
argument_bits bits given (CallPayload index) = slice_index given index

-- the address is that of a byte of the slot with this number
abbrev pub in_slot : World → ℕ → StackSlotShape → ℕ → Bool
in_slot world number slot address = nat_le (world.slot_place number) address && nat_lt address (world.slot_place number + slot.size)

-- the address is that of a byte of a slot of the list, whose first has this number
abbrev pub in_slots_from : World → ℕ → List StackSlotShape → ℕ → Bool
in_slots_from world number [] address = false
in_slots_from world number (slot ∷ slots) address = in_slot world number slot address || in_slots_from world (suc number) slots address

-- memory as it is shown: spill slots hold nothing
abbrev pub shown_memory : (ℕ → Bool) → Memory → Memory
shown_memory hidden memory = λ address. if hidden address then 0 else memory address

-- memory after a call: the call leaves spill slots as they are
abbrev pub memory_beside : (ℕ → Bool) → Memory → Memory → Memory
memory_beside hidden kept memory = λ address. if hidden address then kept address else memory address
