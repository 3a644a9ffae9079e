-- The world in which a program and a function run: what they are given, and what outside calls do. It is a parameter
-- of the definitions only; no value of the program holds one. Own.
use Rattle.std.specs.Prelude.{◌≡◌, ℕ, ◌+◌, ◌%◌, ◌^◌, ◌<◌, ◌≤◌, Bool, List, IsTrue, Some, slice_get, ◌≢◌}
use Rattle.std.specs.declared.cmp.Ordering.{Ordering}
use Rattle.std.specs.declared.cmp.Ordering.TheVariants.{Less, Equal, Greater}
use Rattle.clif_types.specs.declared.types.«Type».{«Type»}
use Rattle.clif_types.specs.StackSlot.{StackSlotShape}
use Rattle.clif_meaning.specs.Bits.{Bits, IsValue}
use Rattle.clif_meaning.specs.Memory.{Memory, byte_order}
use Rattle.clif_meaning.specs.Event.{CallShape, Event, Answer, IsAnswerTo}

-- 32 bits, read as a signed number, are negative, zero or positive as the order says
abbrev pub HasSignOf : Ordering → Bits → Type 0
HasSignOf Less bits = (2 ^ 31 ≤ bits) × (bits < 2 ^ 32)
HasSignOf Equal bits = bits ≡ 0
HasSignOf Greater bits = (0 < bits) × (bits < 2 ^ 31)

pub record World : Type 0 where
  -- the bits of the arguments
  pub arguments : List Bits
  -- memory as the run begins
  pub memory : Memory
  -- which addresses may be read and written
  pub is_accessible : ℕ → Bool
  -- how many bits a pointer has
  pub pointer_width : ℕ
  -- the place of each stack slot
  pub slot_place : ℕ → ℕ
  -- the number that `Memcmp` answers for two lists of bytes
  pub memcmp_number : List ℕ → List ℕ → Bits
  -- Of the events so far, newest first, and the shape of the last call: what is answered,
  pub answer : List Event → CallShape → Answer
  -- what memory holds after it, outside spill slots,
  pub memory_after : List Event → CallShape → Memory
  -- and what the collector makes of the bits of each value that it moves
  pub moved : List Event → CallShape → «Type» → Bits → Bits
  -- memory holds bytes
  pub holds_bytes : (address : ℕ) → memory address < 256
  pub keeps_bytes : (events : List Event) (call : CallShape) (address : ℕ) → memory_after events call address < 256
  -- `Memcmp` answers a number with the sign of the order
  pub memcmp_sign : (left right : List ℕ) → HasSignOf (byte_order left right) (memcmp_number left right)
  -- answers are well typed
  pub answers_fit : (events : List Event) (call : CallShape) → IsAnswerTo call (answer events call)
  -- what is moved keeps its type, and the collector leaves zero
  pub moved_fits : (events : List Event) (call : CallShape) (ty : «Type») (bits : Bits) → IsValue ty bits → IsValue ty (moved events call ty bits)
  pub moved_zero : (events : List Event) (call : CallShape) (ty : «Type») → moved events call ty 0 ≡ 0

-- the places of the slots are what was asked: aligned, accessible, within the width of pointers, and apart: no byte of
-- the one is a byte of another
pub record PlacesSlots (world : World) (slots : List StackSlotShape) : Type 0 where
  pub aligned : (s : ℕ) (slot : StackSlotShape) → slice_get slots s ≡ Some slot → world.slot_place s % 2 ^ slot.align_shift ≡ 0
  pub accessible : (s : ℕ) (slot : StackSlotShape) (k : ℕ) → slice_get slots s ≡ Some slot → k < slot.size → IsTrue (world.is_accessible (world.slot_place s + k))
  pub within : (s : ℕ) (slot : StackSlotShape) → slice_get slots s ≡ Some slot → world.slot_place s + slot.size ≤ 2 ^ world.pointer_width
  pub apart : (s t : ℕ) (slot other : StackSlotShape) (k l : ℕ) → slice_get slots s ≡ Some slot → slice_get slots t ≡ Some other → s ≢ t
      → k < slot.size → l < other.size → world.slot_place s + k ≢ world.slot_place t + l
