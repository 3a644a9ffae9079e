-- Laws that the law of spilling rests on, as the contracts of this crate's functions state them: what is live in a well placed
-- function in which each value is given once, over any test that says which arguments of edges count; and what the collector by
-- maps does to spill slots; and what typed runs keep. Own.
use Rattle.std.specs.Prelude.{◌≡◌, ◌<◌, ℕ, Bool, List, map, Contains}
use Rattle.std.specs.List.Sorted.{IsStrictlyIncreasing}
use Rattle.clif_types.specs.Types.{bits_of, bytes_of}
use Rattle.clif_types.specs.declared.types.«Type».{«Type»}
use Rattle.clif_meaning.specs.Bits.{Bits, value_bytes, value_of_bytes}
use Rattle.clif_meaning.specs.FunctionMachine.{FunctionRun, entries_moved, function_machine}
use Rattle.clif_meaning.specs.FunctionView.{FunctionView}
use Rattle.clif_meaning.specs.Machine.{state_after}
use Rattle.clif_meaning.specs.Memory.{Memory, bytes_in}
use Rattle.clif_meaning.specs.Path.{Place, IsReachable, IsStart}
use Rattle.clif_meaning.specs.WellPlaced.{WellPlaced, function_code, function_flow, given_on_entry, placed_at, placed_gives}
use Rattle.clif_meaning.specs.World.{World, PlacesSlots}
use Rattle.clif_spilling_laws.specs.GivesOnce.{GivesOnce}
use Rattle.clif_spilling_laws.specs.Live.{IsLiveAcrossCall, IsLiveAfter, IsLiveBefore, IsSlotOf, place_at}
use Rattle.clif_spilling_laws.specs.Rewriting.{entry_of}
use Rattle.clif_typed_runs.specs.Laws.{OfNextPlaced}
use Rattle.clif_typed_runs.specs.ValuesFit.{IsFunctionTyped}
use Rattle.clif_spilling_laws.specs.Runs.{GivesEach, IsMetBy, MembersFit, SparesHidden, after_run, before_run, outcome_in, slot_range}
use Rattle.clif_spilling_laws.specs.Spilling.{Spilling}

-- Nothing is live before the first instruction of the entry but the entry's parameters.
abbrev pub NothingLiveAtEntry : Type 0
NothingLiveAtEntry =
    (counts : ℕ → ℕ → Bool) (function : FunctionView) (v : ℕ) (p : Place ℕ)
    → WellPlaced function → IsStart (function_flow function) p → IsLiveBefore counts function p v
    → Contains (given_on_entry (function_code function) p.block p.index) v

-- What is live before or after a place that is reached is one of the function's values.
pub record LiveIsGiven : Type 0 where
  pub before : (counts : ℕ → ℕ → Bool) (function : FunctionView) (count v : ℕ) (p : Place ℕ)
      → WellPlaced function → GivesOnce function count → IsReachable (function_flow function) p
      → IsLiveBefore counts function p v → v < count
  pub after : (counts : ℕ → ℕ → Bool) (function : FunctionView) (count v : ℕ) (p : Place ℕ)
      → WellPlaced function → GivesOnce function count → IsReachable (function_flow function) p
      → IsLiveAfter counts function p v → v < count

-- What is live across a call that is reached is live right after it is given: before the first instruction of the block whose
-- parameter it is, or after the instruction whose result it is.
pub record SpilledIsLive : Type 0 where
  pub parameter : (counts : ℕ → ℕ → Bool) (members : ℕ → Bool) (function : FunctionView) (count v b : ℕ)
      → WellPlaced function → GivesOnce function count → IsLiveAcrossCall counts members function v
      → Contains (function.blocks b).parameters v → IsLiveBefore counts function (place_at b 0) v
  pub result : (counts : ℕ → ℕ → Bool) (members : ℕ → Bool) (function : FunctionView) (count v : ℕ) (p : Place ℕ)
      → WellPlaced function → GivesOnce function count → IsLiveAcrossCall counts members function v
      → Contains (placed_gives (placed_at function p)) v → IsLiveAfter counts function p v

-- Entries for values with slots of their own, by rising number: the collector by maps moves what lies in each slot, once.
abbrev pub EachEntryMoves : Type 0
EachEntryMoves =
    (s : Spilling) (world : World) (moved : «Type» → Bits → Bits) (values : List ℕ) (w : ℕ) (memory : Memory)
    → PlacesSlots world s.after.slots → IsStrictlyIncreasing values → ((v : ℕ) → Contains values v → IsSlotOf s v)
    → ((v u : ℕ) → Contains values v → Contains values u → s.slot_of v ≡ s.slot_of u → v ≡ u) → Contains values w
    → bytes_in (entries_moved (after_run s world) moved (map (entry_of s) values) memory) (slot_range s world w)
    ≡ value_bytes (bytes_of (s.before.value_type w))
    (moved (s.before.value_type w) (value_of_bytes (bytes_in memory (slot_range s world w))))

-- in each step of the run each result gets bits
abbrev pub GivesEachInRun : FunctionRun → Type 0
GivesEachInRun run =
    (n : ℕ) → OfNextPlaced (λ placed. GivesEach run (state_after (function_machine run) n) placed (outcome_in run (state_after (function_machine run) n) placed))
    (state_after (function_machine run) n).control

-- A run gives each result bits, and its members fit: of what the law of spilling asks of the run before, all but that it spares hidden
-- addresses.
pub record RunFits (members : ℕ → Bool) (run : FunctionRun) : Type 0 where
  pub gives_each : GivesEachInRun run
  pub fits : MembersFit members run

-- A typed run does.
abbrev pub TypedRunsFit : Type 0
TypedRunsFit = (members : ℕ → Bool) (run : FunctionRun) → IsFunctionTyped run → RunFits members run

-- what each instruction touches that the run comes to, by itself, are no hidden addresses
abbrev pub SparesThroughout : FunctionRun → Type 0
SparesThroughout run =
    (n : ℕ) → OfNextPlaced (SparesHidden run (state_after (function_machine run) n)) (state_after (function_machine run) n).control

-- A typed run that spares hidden addresses is one that the law of spilling is about, where pointers and slots are the world's.
abbrev pub TypedRunsMeet : Type 0
TypedRunsMeet =
    (members : ℕ → Bool) (s : Spilling) (world : World)
    → world.pointer_width ≡ bits_of s.pointer → PlacesSlots world s.after.slots
    → IsFunctionTyped (before_run s members world) → SparesThroughout (before_run s members world)
    → IsMetBy members s world
