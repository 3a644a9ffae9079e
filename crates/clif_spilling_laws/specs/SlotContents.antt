-- What the slots hold that the stack map of a call names. Own, after what Cranelift's stack maps promise to a collector.
use Rattle.std.specs.Prelude.{◌≡◌, ℕ, Bool, true, List, ◌∷◌, Some, Contains}
use Rattle.clif_types.specs.declared.stackmap.UserStackMapEntry.{UserStackMapEntry}
use Rattle.clif_meaning.specs.Bits.{value_of_bytes}
use Rattle.clif_meaning.specs.Event.{CallShape}
use Rattle.clif_meaning.specs.FunctionMachine.{FunctionState, entry_range, function_machine}
use Rattle.clif_meaning.specs.FunctionView.{Placed}
use Rattle.clif_meaning.specs.Machine.{At, state_after}
use Rattle.clif_meaning.specs.Memory.{bytes_in}
use Rattle.clif_meaning.specs.Path.{IsReachable, Place}
use Rattle.clif_meaning.specs.Typing.{call_shape}
use Rattle.clif_meaning.specs.WellPlaced.{function_flow, placed_at}
use Rattle.clif_meaning.specs.World.{World}
use Rattle.clif_safepoints.specs.Liveness.{IsLiveAcross}
use Rattle.clif_spilling_laws.specs.Laws.{MaySpill}
use Rattle.clif_spilling_laws.specs.Live.{counted}
use Rattle.clif_spilling_laws.specs.Rewriting.{IsExactMap, IsSpilling, entry_of}
use Rattle.clif_spilling_laws.specs.Runs.{IsMetBy, after_run, before_run}
use Rattle.clif_spilling_laws.specs.Spilling.{Spilling}

module _ (counts : ℕ → ℕ → Bool) (members : ℕ → Bool) (s : Spilling) (world : World) where
  -- The entry is that of a member which is live across the instruction at a place, and the bytes in its slot spell the bits that the run
  -- before has for it.
  pub record HoldsValue (place : Place ℕ) (p q : FunctionState) (entry : UserStackMapEntry) : Type 0 where
    pub value : ℕ
    pub entry_is : entry ≡ entry_of s value
    pub member : members value ≡ true
    pub spilled : s.is_spilled value ≡ true
    pub live : IsLiveAcross (counted counts) s.before place value
    pub bits : value_of_bytes (bytes_in q.memory (entry_range (after_run s world) entry)) ≡ p.values value

  -- The run before is about to carry out the call that this one became, both have shown the same, the map is exact there, and each slot
  -- that it names holds its value.
  pub record HoldsAtCall (new : Placed) (p q : FunctionState) : Type 0 where
    pub place : Place ℕ
    pub old : Placed
    pub olds : List Placed
    pub there : placed_at s.before place ≡ Some old
    pub reachable : IsReachable (function_flow s.before) place
    pub before : p.control ≡ At (old ∷ olds)
    pub operation : new.instruction.operation ≡ old.instruction.operation
    pub events : q.events ≡ p.events
    pub exact : IsExactMap counts members s place new.stack_map
    pub slots : (entry : UserStackMapEntry) → Contains new.stack_map entry → HoldsValue place p q entry

-- At each call that the run after comes to, each slot that the call's map names holds what the run before has there, under the premises
-- of the law of spilling.
abbrev pub SlotContents : Type 0
SlotContents =
    (counts : ℕ → ℕ → Bool) (members : ℕ → Bool) (s : Spilling) (world : World)
    → IsSpilling counts s members → MaySpill counts members s → IsMetBy members s world
    → (n : ℕ) (new : Placed) (rest : List Placed) (call : CallShape)
    → (state_after (function_machine (after_run s world)) n).control ≡ At (new ∷ rest) → call_shape new.instruction.operation ≡ Some call
    → (m : ℕ) × HoldsAtCall counts members s world new (state_after (function_machine (before_run s members world)) m)
    (state_after (function_machine (after_run s world)) n)
