-- States of the two runs that agree: the simulation's relation, and what it gives of single values.
use Rattle.std.proofs.Common.{◌≡◌, ◌⊎◌, ◌<◌, ℕ, Bool, true, false, List, [], ◌∷◌, drop, sym, ◌∙◌, Option, Some, None}
use Rattle.clif_types.specs.Types.{bits_of}
use Rattle.clif_meaning.specs.Bits.{Bits}
use Rattle.clif_meaning.specs.Event.{CallShape, Event}
use Rattle.clif_meaning.specs.FunctionMachine.{FunctionState}
use Rattle.clif_meaning.specs.FunctionView.{Placed}
use Rattle.clif_meaning.specs.Machine.{Control, At, HasReturned, HasTrapped, IsStuck}
use Rattle.clif_meaning.specs.Memory.{Memory}
use Rattle.clif_meaning.specs.Path.{IsReachable}
use Rattle.clif_meaning.specs.Typing.{call_shape}
use Rattle.clif_meaning.specs.WellPlaced.{function_flow}
use Rattle.clif_meaning.specs.World.{World, PlacesSlots}
use Rattle.clif_typed_runs.specs.Laws.{OfNextPlaced}
use Rattle.clif_spilling_laws.specs.Accesses.{state_of}
use Rattle.clif_spilling_laws.specs.Laws.{MaySpill}
use Rattle.clif_spilling_laws.specs.Live.{IsLiveBefore, place_at}
use Rattle.clif_spilling_laws.specs.Rewriting.{AreRewritten, IsSpilling}
use Rattle.clif_spilling_laws.specs.Runs.{in_spill_slots}
use Rattle.clif_spilling_laws.specs.SlotContents.{HoldsAtCall}
use Rattle.clif_spilling_laws.specs.Spilling.{Spilling}
use Rattle.clif_spilling_laws.proofs.Basics.Passing.{BeginsQuietly}
use Rattle.clif_spilling_laws.proofs.Memory.Storing.{HoldsIn}

-- what the law asks, but for the runs
pub record Setting (counts : ℕ → ℕ → Bool) (members : ℕ → Bool) (s : Spilling) (world : World) : Type 0 where
  pub spills : IsSpilling counts s members
  pub may : MaySpill counts members s
  pub pointers : world.pointer_width ≡ bits_of s.pointer
  pub places : PlacesSlots world s.after.slots

-- A value of the run before is held by the run after: in its slot where it is spilled, and else as it is.
pub record Held (s : Spilling) (world : World) (v : ℕ) (old : ℕ → Bits) (new : ℕ → Bits) (memory : Memory) : Type 0 where
  pub in_slot : s.is_spilled v ≡ true → HoldsIn s world memory v (old v)
  pub as_it_is : s.is_spilled v ≡ false → new v ≡ old v

-- the same events, and the same memory outside spill slots
pub record SeenAlike (s : Spilling) (world : World) (p q : FunctionState) : Type 0 where
  pub events : q.events ≡ p.events
  pub memory : (a : ℕ) → in_spill_slots s world a ≡ false → q.memory a ≡ p.memory a

module _ (counts : ℕ → ℕ → Bool) (members : ℕ → Bool) (s : Spilling) (world : World) where
  -- before an instruction of the function before, and before what it became: what is live there is held
  pub record AtPlace (block index : ℕ) (old : Placed) (olds code : List Placed) (p q : FunctionState) : Type 0 where
    pub rest : drop index (s.before.blocks block).items ≡ old ∷ olds
    pub reachable : IsReachable (function_flow s.before) (place_at block index)
    pub rewritten : AreRewritten counts s members block index (old ∷ olds) code
    pub held : (v : ℕ) → v < s.count → IsLiveBefore counts s.before (place_at block index) v → Held s world v p.values q.values q.memory

  abbrev pub ControlAlike : FunctionState → FunctionState → Control Placed → Control Placed → Type 0
  ControlAlike p q (At []) (At code) = code ≡ []
  ControlAlike p q (At (old ∷ olds)) (At code) = (block : ℕ) × (index : ℕ) × AtPlace block index old olds code p q
  ControlAlike p q (HasReturned results) (HasReturned others) = others ≡ results
  ControlAlike p q (HasTrapped reason) (HasTrapped other) = other ≡ reason
  ControlAlike p q IsStuck IsStuck = Unit {0}
  ControlAlike p q _ _ = ⊥

  pub record Alike (p q : FunctionState) : Type 0 where
    pub seen : SeenAlike s world p q
    pub control : ControlAlike p q p.control q.control

-- it is before an instruction, or at the end of a block without a terminator
abbrev pub IsAt : Control Placed → Type 0
IsAt (At rest) = Unit {0}
IsAt (HasReturned results) = ⊥
IsAt (HasTrapped reason) = ⊥
IsAt IsStuck = ⊥

module _ (counts : ℕ → ℕ → Bool) (members : ℕ → Bool) (s : Spilling) (world : World) where
  -- where the run after comes to a call, the slots that it names hold what the run before has in this state
  abbrev pub HoldsNext : FunctionState → FunctionState → Type 0
  HoldsNext p q =
      OfNextPlaced (λ new. (call : CallShape) → call_shape new.instruction.operation ≡ Some call → HoldsAtCall counts members s world new p q) q.control

  no_call : {P : Type 0} (call : CallShape) → ◌≡◌ {A = Option CallShape} None (Some call) → P
  no_call call e = cc

  pub quietly_holds : (p : FunctionState) (values : ℕ → Bits) (memory : Memory) (events : List Event) (code : List Placed) → BeginsQuietly code
      → HoldsNext p (state_of values memory events (At code))
  quietly_holds p values memory events [] quiet = tt
  quietly_holds p values memory events (placed ∷ rest) quiet = λ call is. no_call call (sym quiet ∙ is)

-- A state between, of which this is to hold: it shows the events before, or those after where the run has no end then.
pub record Between (Holds : FunctionState → Type 0) (before : List Event) (p : FunctionState) (q : FunctionState) : Type 0 where
  pub at : IsAt q.control
  pub shows : (q.events ≡ before) ⊎ ((q.events ≡ p.events) × IsAt p.control)
  pub holds : Holds q
