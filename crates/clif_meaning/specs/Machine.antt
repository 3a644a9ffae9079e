-- A machine: where it starts, its next state, and what a state shows. Its step is total, a state that ended stays as
-- it is, and it never chooses, so a run is a function of the number of steps. Own.
use Rattle.std.specs.Prelude.{◌≡◌, ℕ, zero, suc, ◌≤◌, List}
use Rattle.clif_types.specs.declared.trapcode.TrapCode.{TrapCode}
use Rattle.clif_meaning.specs.Bits.{Bits}
use Rattle.clif_meaning.specs.Memory.{Memory}
use Rattle.clif_meaning.specs.Event.{Event}

pub record Machine (State Seen : Type 0) : Type 0 where
  pub start : State
  pub next : State → State
  pub shown : State → Seen

-- the state after this many steps
abbrev pub state_after : {State Seen : Type 0} → Machine State Seen → ℕ → State
state_after machine zero = machine.start
state_after machine (suc n) = machine.next (state_after machine n)

-- what the machine shows after this many steps
abbrev pub observed : {State Seen : Type 0} → Machine State Seen → ℕ → Seen
observed machine n = machine.shown (state_after machine n)

-- where a run of items stands: before the rest of a block, or at an end
pub data Control (Item : Type 0) : Type 0 where
  At : (rest : List Item) → Control Item
  HasReturned : (results : List Bits) → Control Item
  HasTrapped : TrapCode → Control Item
  IsStuck : Control Item

-- how a run ended, as it is shown: with bits or a trap, each with memory outside spill slots; or it can't step; or
-- none of these yet
pub data Ending : Type 0 where
  NotYet : Ending
  Returned : (results : List Bits) (memory : Memory) → Ending
  Trapped : TrapCode → (memory : Memory) → Ending
  Stuck : Ending

-- what is seen of a run: the outside calls so far, newest first, and the end
pub record Observation : Type 0 where
  pub events : List Event
  pub ending : Ending

-- the end, as it is shown
abbrev pub ending_of : {Item : Type 0} → Control Item → Memory → Ending
ending_of (At rest) memory = NotYet
ending_of (HasReturned results) memory = Returned results memory
ending_of (HasTrapped reason) memory = Trapped reason memory
ending_of IsStuck memory = Stuck

-- it is an end
abbrev pub IsEnd : Ending → Type 0
IsEnd NotYet = ⊥
IsEnd (Returned results memory) = Unit {0}
IsEnd (Trapped reason memory) = Unit {0}
IsEnd Stuck = Unit {0}

-- what a run shows once it has ended it shows from then on
abbrev pub EndStays : (ℕ → Observation) → Type 0
EndStays run = (n m : ℕ) → n ≤ m → IsEnd (run n).ending → run m ≡ run n
