-- The runs of a function and of the one with stores and reloads, and what a world has to be for them to mean the same. Own.
use Rattle.std.specs.Prelude.{◌≡◌, ◌≤◌, ℕ, Bool, true, false, List, length, map, drop, Some, slice_get}
use Rattle.std.specs.List.{AllByRecursion}
use Rattle.clif_types.specs.Types.{bits_of, bytes_of}
use Rattle.clif_meaning.specs.Access.{touched_ranges}
use Rattle.clif_meaning.specs.Bits.{IsValue}
use Rattle.clif_meaning.specs.Event.{Answer, Results, Exception}
use Rattle.clif_meaning.specs.FunctionMachine.{ByMaps, OverSet, FunctionRun, FunctionState, call_outside, function_machine, value_bits}
use Rattle.clif_meaning.specs.FunctionView.{Placed}
use Rattle.clif_meaning.specs.Machine.{state_after}
use Rattle.clif_meaning.specs.Memory.{Range}
use Rattle.clif_meaning.specs.Outcome.{Outcome, Gives, Goes, Returns, Traps, Calls, NoStep, outcome_of}
use Rattle.clif_meaning.specs.Premises.{SparesRange}
use Rattle.clif_meaning.specs.Store.{in_slots_from}
use Rattle.clif_meaning.specs.World.{World, PlacesSlots}
use Rattle.clif_safepoints.specs.Analysis.{IsReached}
use Rattle.clif_typed_runs.specs.Laws.{OfNextPlaced}
use Rattle.clif_spilling_laws.specs.Live.{IsLiveBefore, place_at}
use Rattle.clif_spilling_laws.specs.Spilling.{Spilling}

-- THE TWO RUNS ----------------------------------------------------------------------------------------------------------

-- an address in a slot that the function before lacks
abbrev pub in_spill_slots : Spilling → World → ℕ → Bool
in_spill_slots s world = in_slots_from world (length s.before.slots) (drop (length s.before.slots) s.after.slots)

-- the bytes of a spilled value's slot
abbrev pub slot_range : Spilling → World → ℕ → Range
slot_range s world v = record {
  width = world.pointer_width;
  start = world.slot_place (s.slot_of v);
  size = bytes_of (s.before.value_type v);
}

-- the function before, under the collector over the members
abbrev pub before_run : Spilling → (ℕ → Bool) → World → FunctionRun
before_run s members world = record { function = s.before; collector = OverSet members; hidden = in_spill_slots s world; world = world }

-- the function with stores and reloads, under the collector by maps
abbrev pub after_run : Spilling → World → FunctionRun
after_run s world = record { function = s.after; collector = ByMaps; hidden = in_spill_slots s world; world = world }

-- WHAT THE RUN BEFORE KEEPS ---------------------------------------------------------------------------------------------

-- what an instruction does in a state
abbrev pub outcome_in : FunctionRun → FunctionState → Placed → Outcome
outcome_in run state placed =
    outcome_of run.world placed.instruction.operation placed.instruction.controlling
    (map run.function.value_type placed.instruction.operands) (map (value_bits run state) placed.instruction.operands) state.memory

-- its accesses spare hidden addresses
abbrev pub SparesHidden : FunctionRun → FunctionState → Placed → Type 0
SparesHidden run state placed =
    AllByRecursion (SparesRange run.hidden)
    (touched_ranges run.world placed.instruction.operation placed.instruction.controlling
    (map run.function.value_type placed.instruction.operands) (map (value_bits run state) placed.instruction.operands))

-- each of its results gets bits
abbrev pub AnswersEach : List ℕ → Answer → Type 0
AnswersEach results (Results values) = length results ≤ length values
AnswersEach results (Exception edge payload) = Unit {0}

abbrev pub GivesEach : FunctionRun → FunctionState → Placed → Outcome → Type 0
GivesEach run state placed (Gives values memory) = length placed.results ≤ length values
GivesEach run state placed (Calls callee call arguments) =
    AnswersEach placed.results (run.world.answer (call_outside run state placed.stack_map callee call arguments).events call)
GivesEach run state placed (Goes edge given memory) = Unit {0}
GivesEach run state placed (Returns values) = Unit {0}
GivesEach run state placed (Traps reason) = Unit {0}
GivesEach run state placed NoStep = Unit {0}

-- what is asked of an instruction that a run comes to
pub record IsInOrder (run : FunctionRun) (state : FunctionState) (placed : Placed) : Type 0 where
  pub spares : SparesHidden run state placed
  pub gives_each : GivesEach run state placed (outcome_in run state placed)

-- it holds of each instruction that the run comes to, in the state then
abbrev pub IsInOrderThroughout : FunctionRun → Type 0
IsInOrderThroughout run =
    (n : ℕ) → OfNextPlaced (IsInOrder run (state_after (function_machine run) n)) (state_after (function_machine run) n).control

-- in each state the members are values of their types
abbrev pub MembersFit : (ℕ → Bool) → FunctionRun → Type 0
MembersFit members run =
    (n v : ℕ) → members v ≡ true → IsValue (run.function.value_type v) ((state_after (function_machine run) n).values v)

-- What a world has to be, and what the run before has to keep in it. Pointers have its width, and it places the slots of both
-- functions, the new ones being all.
pub record IsMetBy (members : ℕ → Bool) (s : Spilling) (world : World) : Type 0 where
  pub pointers : world.pointer_width ≡ bits_of s.pointer
  pub places : PlacesSlots world s.after.slots
  pub in_order : IsInOrderThroughout (before_run s members world)
  pub fits : MembersFit members (before_run s members world)

-- An argument that doesn't count is passed to a member, no alias, that isn't needed once it is given. Asked of blocks that are
-- reached alone.
abbrev pub CountsEnough : (ℕ → ℕ → Bool) → (ℕ → Bool) → Spilling → Type 0
CountsEnough counts members s =
    (target place param : ℕ) → IsReached s.before target → counts target place ≡ false
    → slice_get (s.before.blocks target).parameters place ≡ Some param
    → (members param ≡ true) × (s.before.resolved param ≡ param) × (IsLiveBefore counts s.before (place_at target 0) param → ⊥)
