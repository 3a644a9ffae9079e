-- What is live right before and right after an instruction, what is spilled, which slot a spilled value has, and that no slot is
-- shared by two values that are live at once. The usual live variables; which arguments of edges count as uses says a test.
use Rattle.std.specs.Prelude.{◌≡◌, ◌⊎◌, ◌≤◌, ◌↔◌, ◌^◌, ℕ, Bool, true, List, length, Some, Contains, IsTrue, slice_get}
use Rattle.clif_types.specs.StackSlot.{StackSlotShape}
use Rattle.clif_types.specs.Types.{bytes_of}
use Rattle.clif_meaning.specs.Event.{CallShape}
use Rattle.clif_meaning.specs.FunctionView.{FunctionView, Placed}
use Rattle.clif_meaning.specs.Path.{Place, IsReachable}
use Rattle.clif_meaning.specs.Typing.{call_shape}
use Rattle.clif_meaning.specs.WellPlaced.{function_flow, placed_at}
use Rattle.clif_safepoints.specs.Liveness.{IsLiveAcross, IsUsedAhead, used_operands}
use Rattle.clif_spilling_laws.specs.Spilling.{Spilling}

-- the argument at this place of edges to this target counts as a use
abbrev pub counted : (ℕ → ℕ → Bool) → ℕ → ℕ → Type 0
counted counts target place = IsTrue (counts target place)

-- a place of a function
abbrev pub place_at : (block index : ℕ) → Place ℕ
place_at block index = record { block = block; index = index }

-- live right before the instruction at a place, after the parameters of its block: it uses the value, or doesn't give it, and the
-- value is used ahead
abbrev pub IsLiveBefore : (ℕ → ℕ → Bool) → FunctionView → Place ℕ → ℕ → Type 0
IsLiveBefore counts function p value =
    Contains (used_operands function.resolved (placed_at function p)) value ⊎ IsLiveAcross (counted counts) function p value

-- live right after it, its results given and the arguments of its edges still to be read
abbrev pub IsLiveAfter : (ℕ → ℕ → Bool) → FunctionView → Place ℕ → ℕ → Type 0
IsLiveAfter counts function p value = (path : List (Place ℕ)) × IsUsedAhead (counted counts) function value p path

-- a member, which is no alias, is live across a call that a path from the entry comes to
pub record IsLiveAcrossCall (counts : ℕ → ℕ → Bool) (members : ℕ → Bool) (function : FunctionView) (value : ℕ) : Type 0 where
  pub place : Place ℕ
  pub reachable : IsReachable (function_flow function) place
  pub placed : Placed
  pub there : placed_at function place ≡ Some placed
  pub shape : CallShape
  pub call : call_shape placed.instruction.operation ≡ Some shape
  pub member : members value ≡ true
  pub unaliased : function.resolved value ≡ value
  pub live : IsLiveAcross (counted counts) function place value

-- spilled is exactly what is live across a call that is reached
abbrev pub SpillsLive : (ℕ → ℕ → Bool) → (ℕ → Bool) → Spilling → Type 0
SpillsLive counts members s = (v : ℕ) → (s.is_spilled v ≡ true) ↔ IsLiveAcrossCall counts members s.before v

-- the slot of a spilled value: one that the function before lacks, of the size of the value's type and as aligned
pub record IsSlotOf (s : Spilling) (v : ℕ) : Type 0 where
  pub slot : StackSlotShape
  pub there : slice_get s.after.slots (s.slot_of v) ≡ Some slot
  pub beyond : length s.before.slots ≤ s.slot_of v
  pub size : slot.size ≡ bytes_of (s.before.value_type v)
  pub align : 2 ^ slot.align_shift ≡ bytes_of (s.before.value_type v)

-- spilled values that are live at one point and have one slot are one value
abbrev pub AreApart : Spilling → (ℕ → Type 0) → Type 0
AreApart s IsLive =
    (v w : ℕ) → s.is_spilled v ≡ true → s.is_spilled w ≡ true → IsLive v → IsLive w → s.slot_of v ≡ s.slot_of w → v ≡ w

-- No slot is shared: neither right before an instruction that is reached, nor right after it.
pub record SharesNoSlot (counts : ℕ → ℕ → Bool) (s : Spilling) : Type 0 where
  pub before : (p : Place ℕ) → IsReachable (function_flow s.before) p → AreApart s (IsLiveBefore counts s.before p)
  pub after : (p : Place ℕ) → IsReachable (function_flow s.before) p → AreApart s (IsLiveAfter counts s.before p)
