-- Which slots the spiller takes and frees as it walks over a function from its end to its start, apart from code; and how many of them
-- there are at most. Source: own, after Cranelift's spiller of safepoints. The walk comes to the blocks in the order of the analysis, and
-- in a block to the instructions from the last to the first, then to the parameters; at an instruction to what it gives, then to what it
-- uses.
use Rattle.std.specs.Prelude.{◌≡◌, ◌⊎◌, ◌<◌, ◌≤◌, ◌==◌, ℕ, Bool, true, if◌then◌else◌, List, [], ◌∷◌, ◌++◌, length, map as each, reverse, drop, count_by, Option, None, Some, Contains, slice_get}
use Rattle.std.specs.FinMap as map
use Rattle.clif_types.specs.StackSlot.{StackSlotShape}
use Rattle.clif_types.specs.declared.types.«Type».{«Type»}
use Rattle.clif_instructions.specs.Members.{Once}
use Rattle.clif_ir.specs.Body.{Body}
use Rattle.clif_meaning.specs.FunctionView.{FunctionView}
use Rattle.clif_meaning.specs.Path.{Place, IsReachable}
use Rattle.clif_meaning.specs.WellPlaced.{WellPlaced, function_flow, placed_at, placed_gives, placed_targets}
use Rattle.clif_safepoints.specs.Analysis.{IsBlockOrder}
use Rattle.clif_safepoints.specs.Liveness.{IsPassed, used_operands}
use Rattle.clif_stack_slots.specs.Sizes.{FitsStackMap, bytes_in, shift_of, size_of_type}
use Rattle.clif_stack_slots.specs.Slots.{SlotMap, assigned_in, free_in, slot_for}
use Rattle.clif_stack_slots.specs.declared.size.SlotSize.{SlotSize}
use Rattle.clif_stack_slots.specs.declared.slots.StackSlots.{StackSlots}
use Rattle.clif_spilling_laws.specs.GivesOnce.{GivesOnce}
use Rattle.clif_spilling_laws.specs.Live.{IsLiveAfter, IsLiveBefore, counted, place_at}
use Rattle.clif_spilling_laws.specs.Spilling.{Spilling}

-- STATES ----------------------------------------------------------------------------------------------------------------

-- the slot of each value that was given one, which it keeps for good; the free slots of each size, the one freed last first; and all
-- slots of the function
pub record SlotState : Type 0 where
  pub assigned : SlotMap
  pub free : SlotSize → List ℕ
  pub slots : List StackSlotShape

-- no value has a slot, and none is free
abbrev pub no_slots : List StackSlotShape → SlotState
no_slots slots = record { assigned = map.empty; free = λ size. []; slots = slots }

abbrev pub IsAssigned : SlotState → ℕ → Type 0
IsAssigned st value = (slot : ℕ) × (map.get st.assigned value ≡ Some slot)

-- with these slots free of a size
abbrev pub with_free : SlotSize → List ℕ → (SlotSize → List ℕ) → SlotSize → List ℕ
with_free size slots free other = if shift_of other == shift_of size then slots else free other

-- a free slot goes to the value, or a new one
abbrev pub take_slot : List ℕ → SlotSize → ℕ → SlotState → SlotState
take_slot [] size value st = record {
  assigned = map.insert st.assigned value (length st.slots);
  free = st.free;
  slots = st.slots ++ slot_for size ∷ [];
}
take_slot (slot ∷ rest) size value st = record {
  assigned = map.insert st.assigned value slot;
  free = with_free size rest st.free;
  slots = st.slots;
}

-- A value of a size needs a slot: the one that was found for it, else another. One that fits no stack map gets none.
abbrev pub need_slot : Option SlotSize → (found : Option ℕ) → ℕ → SlotState → SlotState
need_slot None found value st = st
need_slot (Some of) (Some slot) value st = st
need_slot (Some of) None value st = take_slot (st.free of) of value st

-- the slot that was found for a value of a size is free
abbrev pub free_slot : Option SlotSize → (found : Option ℕ) → SlotState → SlotState
free_slot None found st = st
free_slot (Some of) None st = st
free_slot (Some of) (Some slot) st = record st { free = with_free of (slot ∷ st.free of) st.free }

-- ACTS ------------------------------------------------------------------------------------------------------------------

-- the walk comes to a use of a value, or to where it is given
pub data SlotAct : Type 0 where
  Needs : (value : ℕ) → SlotAct
  Gives : (value : ℕ) → SlotAct

abbrev pub after_act : (ty : ℕ → «Type») → SlotAct → SlotState → SlotState
after_act ty (Needs value) st = need_slot (size_of_type (ty value)) (map.get st.assigned value) value st
after_act ty (Gives value) st = free_slot (size_of_type (ty value)) (map.get st.assigned value) st

abbrev pub after_acts : (ty : ℕ → «Type») → List SlotAct → SlotState → SlotState
after_acts ty [] st = st
after_acts ty (act ∷ acts) st = after_acts ty acts (after_act ty act st)

-- a function and what the code knows of slots have this state
pub record IsSlotState (f : Body) (a : StackSlots) (st : SlotState) : Type 0 where
  pub assigned : assigned_in a ≡ st.assigned
  pub free : (size : SlotSize) → free_in a size ≡ reverse (st.free size)
  pub slots : f.tables.stack_slots ≡ st.slots

-- every argument of an edge counts as a use
abbrev pub every : ℕ → ℕ → Bool
every target place = true

-- THE WALK --------------------------------------------------------------------------------------------------------------

-- a block comes before another one in an order
abbrev pub ComesBefore : List ℕ → (block other : ℕ) → Type 0
ComesBefore order block other =
    (i j : ℕ) × (i < j) × (slice_get order i ≡ Some block) × (slice_get order j ≡ Some other)

-- The walk comes to a place earlier than to the other one: its block comes before that one's, or it stands behind it in one block.
abbrev pub IsEarlier : List ℕ → (p q : Place ℕ) → Type 0
IsEarlier order p q = ComesBefore order p.block q.block ⊎ ((p.block ≡ q.block) × (q.index < p.index))

-- A value is open at a place of the walk: it is live right before it or before one that came earlier, and the walk came to no definition
-- of it since then. What an instruction gives comes before what it uses, and the parameters of a block after its instructions.
pub record IsOpen (function : FunctionView) (order : List ℕ) (p : Place ℕ) (v : ℕ) : Type 0 where
  pub since : Place ℕ
  pub earlier : (since ≡ p) ⊎ IsEarlier order since p
  pub live : IsLiveBefore every function since v
  pub no_result : (q : Place ℕ) → IsEarlier order since q → (q ≡ p) ⊎ IsEarlier order q p
      → ¬ Contains (placed_gives (placed_at function q)) v
  pub no_parameter : (b : ℕ) → (b ≡ since.block) ⊎ ComesBefore order since.block b → ComesBefore order b p.block
      → ¬ Contains (function.blocks b).parameters v

-- so many different spilled values of this size are open at one place that is reached
pub record AreOpen (function : FunctionView) (is_spilled : ℕ → Bool) (order : List ℕ) (size : SlotSize) (count : ℕ) : Type 0 where
  pub place : Place ℕ
  pub reached : IsReachable (function_flow function) place
  pub values : List ℕ
  pub once : Once values
  pub many : length values ≡ count
  pub spilled : (v : ℕ) → Contains values v → is_spilled v ≡ true
  pub sized : (v : ℕ) → Contains values v → size_of_type (function.value_type v) ≡ Some size
  pub are_open : (v : ℕ) → Contains values v → IsOpen function order place v

-- how many of these slots have this size
abbrev pub count_of : SlotSize → List StackSlotShape → ℕ
count_of size slots = count_by (λ slot. slot.size == bytes_in size) slots

-- Where there are slots of a size, as many values of it are open at one place.
abbrev pub AreNeeded : FunctionView → (is_spilled : ℕ → Bool) → (order : List ℕ) → SlotSize → (count : ℕ) → Type 0
AreNeeded function is_spilled order size count = (count ≡ 0) ⊎ AreOpen function is_spilled order size count

-- the slots that the function before lacks
abbrev pub added_slots : Spilling → List StackSlotShape
added_slots s = drop (length s.before.slots) s.after.slots

-- A spilling adds few slots: each has one of the sizes, and of each size there are no more than values of it are open at one place.
pub record HasFewSlots (order : List ℕ) (s : Spilling) : Type 0 where
  pub sized : (slot : StackSlotShape) → Contains (added_slots s) slot → (size : SlotSize) × (slot ≡ slot_for size)
  pub needed : (size : SlotSize) → AreNeeded s.before s.is_spilled order size (count_of size (added_slots s))

-- HANDLED ---------------------------------------------------------------------------------------------------------------

-- what a walk over a function goes by
pub record IsWalk (function : FunctionView) (count : ℕ) (is_spilled : ℕ → Bool) (order : List ℕ) : Type 0 where
  pub gives_once : GivesOnce function count
  pub results_once : (p : Place ℕ) → Once (placed_gives (placed_at function p))
  pub parameters_once : (b : ℕ) → Once (function.blocks b).parameters
  pub ordered : IsBlockOrder function order
  pub fits : (v : ℕ) → is_spilled v ≡ true → FitsStackMap (function.value_type v)

-- The walk came to this place: to all of some blocks, and to one block from this index on.
abbrev pub IsHandled : FunctionView → (done : List ℕ) → (block from : ℕ) → Place ℕ → Type 0
IsHandled function done block from p =
    (p.index < length (function.blocks p.block).items) × (Contains done p.block ⊎ ((p.block ≡ block) × (from ≤ p.index)))

-- the walk came to a definition of the value
abbrev pub IsClosed : FunctionView → (done : List ℕ) → (block from : ℕ) → ℕ → Type 0
IsClosed function done block from v =
    ((p : Place ℕ) × IsHandled function done block from p × Contains (placed_gives (placed_at function p)) v)
    ⊎ ((b : ℕ) × Contains done b × Contains (function.blocks b).parameters v)

-- a value is live right before a place or right after it
abbrev pub IsLiveBeside : FunctionView → Place ℕ → ℕ → Type 0
IsLiveBeside function p v = IsLiveBefore every function p v ⊎ IsLiveAfter every function p v

-- both are live right before a place, or both are right after it
abbrev pub AreLive : FunctionView → Place ℕ → (v w : ℕ) → Type 0
AreLive function p v w =
    (IsLiveBefore every function p v × IsLiveBefore every function p w)
    ⊎ (IsLiveAfter every function p v × IsLiveAfter every function p w)

-- spilled values that are live together at a place that the walk came to
abbrev pub Meet : FunctionView → (is_spilled : ℕ → Bool) → (done : List ℕ) → (block from : ℕ) → (v w : ℕ) → Type 0
Meet function is_spilled done block from v w =
    (is_spilled v ≡ true) × (is_spilled w ≡ true)
    × (p : Place ℕ) × IsHandled function done block from p × AreLive function p v w

-- the walk came to a place that the value is live before, and to no definition of it since
pub record IsKeptOpen (function : FunctionView) (order done : List ℕ) (block from : ℕ) (v : ℕ) : Type 0 where
  pub since : Place ℕ
  pub handled : IsHandled function done block from since
  pub live : IsLiveBefore every function since v
  pub no_result : (q : Place ℕ) → IsHandled function done block from q → IsEarlier order since q
      → ¬ Contains (placed_gives (placed_at function q)) v
  pub no_parameter : (b : ℕ) → Contains done b → (b ≡ since.block) ⊎ ComesBefore order since.block b
      → ¬ Contains (function.blocks b).parameters v

-- WHAT STAYS SO ---------------------------------------------------------------------------------------------------------

-- no number stands in a list twice
abbrev pub Distinct : List ℕ → Type 0
Distinct [] = Unit {0}
Distinct (x ∷ xs) = (Contains xs x → ⊥) × Distinct xs

-- a new slot of this size
pub record HasSize (base : ℕ) (slots : List StackSlotShape) (slot : ℕ) (size : SlotSize) : Type 0 where
  pub beyond : base ≤ slot
  pub there : slice_get slots slot ≡ Some (slot_for size)

-- a new slot of the size of a value's type
pub record IsSlotFor (ty : ℕ → «Type») (base : ℕ) (slots : List StackSlotShape) (slot v : ℕ) : Type 0 where
  pub size : SlotSize
  pub size_is : size_of_type (ty v) ≡ Some size
  pub has_size : HasSize base slots slot size

-- each slot has its size
pub record AreSlots (is_spilled : ℕ → Bool) (ty : ℕ → «Type») (base : ℕ) (st : SlotState) : Type 0 where
  pub inside : base ≤ length st.slots
  pub spilled : (v slot : ℕ) → map.get st.assigned v ≡ Some slot → is_spilled v ≡ true
  pub given : (v slot : ℕ) → map.get st.assigned v ≡ Some slot → IsSlotFor ty base st.slots slot v
  pub free : (size : SlotSize) (slot : ℕ) → Contains (st.free size) slot → HasSize base st.slots slot size
  pub made : (slot : ℕ) (shape : StackSlotShape) → base ≤ slot → slice_get st.slots slot ≡ Some shape
      → (size : SlotSize) × (shape ≡ slot_for size)

-- values that have one slot: at most one of them isn't closed, and no two of them meet
pub record KeepsApart (Closed : ℕ → Type 0) (Meets : ℕ → ℕ → Type 0) (st : SlotState) : Type 0 where
  pub once : (size : SlotSize) → Distinct (st.free size)
  pub freed : (size : SlotSize) (slot v : ℕ) → Contains (st.free size) slot → map.get st.assigned v ≡ Some slot → Closed v
  pub one_open : (v w slot : ℕ) → map.get st.assigned v ≡ Some slot → map.get st.assigned w ≡ Some slot
      → (v ≡ w → ⊥) → Closed v ⊎ Closed w
  pub met : (v w : ℕ) → Meets v w → IsAssigned st v × IsAssigned st w
  pub apart : (v w slot : ℕ) → map.get st.assigned v ≡ Some slot → map.get st.assigned w ≡ Some slot → Meets v w → v ≡ w

-- a value that holds a slot of its size
pub record IsHolder (ty : ℕ → «Type») (Held : ℕ → Type 0) (st : SlotState) (size : SlotSize) (slot value : ℕ) : Type 0 where
  pub has : map.get st.assigned value ≡ Some slot
  pub size_is : size_of_type (ty value) ≡ Some size
  pub held : Held value

-- each new slot is free or held
abbrev pub AreHeld : (ty : ℕ → «Type») → (base : ℕ) → (Held : ℕ → Type 0) → SlotState → Type 0
AreHeld ty base Held st =
    (size : SlotSize) (slot : ℕ) → HasSize base st.slots slot size
    → Contains (st.free size) slot ⊎ ((value : ℕ) × IsHolder ty Held st size slot value)

-- what a walk that has come to these places keeps of slots
pub record IsAllocated (function : FunctionView) (is_spilled : ℕ → Bool) (order : List ℕ) (base : ℕ) (done : List ℕ) (block from : ℕ) (st : SlotState) : Type 0 where
  pub slots : AreSlots is_spilled function.value_type base st
  pub covers : (p : Place ℕ) (v : ℕ) → IsHandled function done block from p → is_spilled v ≡ true
      → IsLiveBeside function p v → IsAssigned st v
  pub apart : WellPlaced function
      → KeepsApart (IsClosed function done block from) (Meet function is_spilled done block from) st
  pub held : AreHeld function.value_type base (IsKeptOpen function order done block from) st
  pub needed : (size : SlotSize) → AreNeeded function is_spilled order size (count_of size (drop base st.slots))

-- between two blocks, after these: no place of another block counts
abbrev pub IsAllocatedUpTo : FunctionView → (is_spilled : ℕ → Bool) → (order : List ℕ) → (base : ℕ) → (done : List ℕ) → SlotState → Type 0
IsAllocatedUpTo function is_spilled order base done st =
    (block : ℕ) → IsAllocated function is_spilled order base done block (length (function.blocks block).items) st

-- THE ACTS AT A PLACE ---------------------------------------------------------------------------------------------------

-- the values of which a use comes at a place: its operands, and what its edges pass
abbrev pub IsUsedAt : FunctionView → Place ℕ → ℕ → Type 0
IsUsedAt function p v =
    Contains (used_operands function.resolved (placed_at function p)) v
    ⊎ IsPassed (counted every) function.resolved v (placed_at function p)

-- The acts at a place: what lives on in another block needs slots, then what it gives is given, and then what it uses needs slots.
pub record ActsAt (function : FunctionView) (is_spilled : ℕ → Bool) (st : SlotState) (p : Place ℕ) (acts : List SlotAct) : Type 0 where
  pub outs : List ℕ
  pub outs_live : (v : ℕ) → Contains outs v → (is_spilled v ≡ true) × IsLiveAfter every function p v
  pub outs_all : (v target : ℕ) → is_spilled v ≡ true → Contains (placed_targets (placed_at function p)) target
      → IsLiveBefore every function (place_at target 0) v → (¬ Contains (function.blocks target).parameters v)
      → Contains outs v ⊎ IsAssigned st v
  pub outs_none : placed_targets (placed_at function p) ≡ [] → outs ≡ []
  pub uses : List ℕ
  pub uses_live : (v : ℕ) → Contains uses v → (is_spilled v ≡ true) × IsLiveBefore every function p v
  pub uses_all : (v : ℕ) → is_spilled v ≡ true → IsUsedAt function p v
      → Contains uses v
      ⊎ IsAssigned (after_acts function.value_type (each Needs outs ++ each Gives (placed_gives (placed_at function p))) st) v
  pub acts_are : acts ≡ each Needs outs ++ each Gives (placed_gives (placed_at function p)) ++ each Needs uses
