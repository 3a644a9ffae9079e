-- What reloads and stores do: the machine's states around them, and that what was stored is loaded. Own.
use Rattle.std.specs.Prelude.{◌≡◌, ℕ, List, [], ◌∷◌}
use Rattle.clif_types.specs.Types.{bits_of, bytes_of}
use Rattle.clif_meaning.specs.Bits.{Bits, IsValue, value_bytes, value_of_bytes}
use Rattle.clif_meaning.specs.Event.{Event}
use Rattle.clif_meaning.specs.FunctionMachine.{FunctionState, function_step, same_value}
use Rattle.clif_meaning.specs.FunctionView.{Placed}
use Rattle.clif_meaning.specs.Machine.{At, Control}
use Rattle.clif_meaning.specs.Memory.{Memory, bytes_in, written}
use Rattle.clif_meaning.specs.Outcome.{low_bits_at}
use Rattle.clif_meaning.specs.Store.{assigned}
use Rattle.clif_meaning.specs.World.{World, PlacesSlots}
use Rattle.clif_spilling_laws.specs.Live.{IsSlotOf}
use Rattle.clif_spilling_laws.specs.Runs.{after_run, slot_range}
use Rattle.clif_spilling_laws.specs.Spilling.{IsReload, Reload, Spilling, reload_items}

-- a state, by its parts
abbrev pub state_of : (ℕ → Bits) → Memory → List Event → Control Placed → FunctionState
state_of values memory events control = record { values = values; memory = memory; events = events; control = control }

-- what is loaded from a value's slot
abbrev pub loaded : Spilling → World → Memory → ℕ → Bits
loaded s world memory v = low_bits_at (s.before.value_type v) (value_of_bytes (bytes_in memory (slot_range s world v)))

-- memory with these bits in a value's slot
abbrev pub stored : Spilling → World → Memory → ℕ → Bits → Memory
stored s world memory v bits = written memory (slot_range s world v) (value_bytes (bytes_of (s.before.value_type v)) bits)

-- the values after a reload: the address, and then the copy
abbrev pub reloaded : Spilling → World → Memory → Reload → (ℕ → Bits) → ℕ → Bits
reloaded s world memory x values =
    assigned same_value (x.copy ∷ []) (loaded s world memory x.access.value ∷ [])
    (assigned same_value (x.access.address ∷ []) (world.slot_place (s.slot_of x.access.value) ∷ []) values)

-- Of a value that fits its type: what was stored is loaded.
abbrev pub StoredIsLoaded : Type 0
StoredIsLoaded =
    (s : Spilling) (world : World) (memory : Memory) (v : ℕ) (bits : Bits)
    → PlacesSlots world s.after.slots → IsSlotOf s v → IsValue (s.before.value_type v) bits
    → loaded s world (stored s world memory v bits) v ≡ bits

-- A reload runs, in two steps: it changes no memory, and no value but its address and its copy.
abbrev pub ReloadsRun : Type 0
ReloadsRun =
    (s : Spilling) (world : World) (x : Reload) (rest : List Placed) (values : ℕ → Bits) (memory : Memory) (events : List Event)
    → world.pointer_width ≡ bits_of s.pointer → PlacesSlots world s.after.slots → IsReload s x → IsSlotOf s x.access.value
    → function_step (after_run s world) (function_step (after_run s world) (state_of values memory events (At (reload_items s (x ∷ []) rest))))
    ≡ state_of (reloaded s world memory x values) memory events (At rest)
