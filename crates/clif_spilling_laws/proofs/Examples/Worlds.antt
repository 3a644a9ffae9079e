-- The worlds of the worked examples: slots are placed at 1000, and 16 is added to what moves. What the law asks of them.
use Rattle.std.proofs.Common.{◌≡◌, ◌<◌, ◌≤◌, ◌+◌, ◌*◌, ◌%◌, ◌^◌, ℕ, zero, suc, Bool, true, false, if◌then◌else◌, List, [], ◌∷◌, map, refl, sym, ap, subst, ◌∙◌, arith, Some}
use Rattle.std.specs.Prelude.{slice_get}
use Rattle.std.specs.List.{AllByRecursion}
use Rattle.clif_types.specs.StackSlot.{StackSlotShape}
use Rattle.clif_types.specs.Types.{bits_of}
use Rattle.clif_types.specs.declared.types.«Type».{«Type»}
use Rattle.std.proofs.Math.Nat.{mod-lt}
use Rattle.clif_tables.specs.Callees.{types_of}
use Rattle.clif_meaning.specs.Bits.{AreValues, Bits}
use Rattle.clif_meaning.specs.Event.{Answer, CallShape, Exception, IsAnswerTo, Results, edge_count}
use Rattle.clif_meaning.specs.FunctionMachine.{FunctionRun, FunctionState, function_machine}
use Rattle.clif_meaning.specs.FunctionView.{Placed}
use Rattle.clif_meaning.specs.Machine.{state_after}
use Rattle.clif_meaning.specs.World.{World, PlacesSlots}
use Rattle.clif_meaning.proofs.SampleWorld
use Rattle.clif_typed_runs.specs.ValuesFit.{IsFunctionTyped}
use Rattle.clif_spilling_laws.specs.Runs.{IsMetBy, SparesHidden, before_run}
use Rattle.clif_spilling_laws.specs.Spilling.{Spilling}
use Rattle.clif_spilling_laws.proofs.Basics.Left.{next_follows, next_is}
use Rattle.clif_spilling_laws.proofs.Functions.Typed.{typed_runs_meet}

-- it passes these arguments, and calls return zeros
abbrev pub passing : List Bits → World
passing arguments = record SampleWorld.sample_world { arguments = arguments }

-- calls return this number, cut to the type, and slots of four bytes are placed one after another
abbrev pub cut_to : ℕ → «Type» → Bits
cut_to number ty = number % 2 ^ bits_of ty

pub cut_fits : (number : ℕ) (types : List «Type») → AreValues types (map (cut_to number) types)
cut_fits number [] = tt
cut_fits number (ty ∷ types) = (mod-lt number (SampleWorld.pow_pos (bits_of ty)), cut_fits number types)

abbrev pub answering : ℕ → List Bits → World
answering number arguments = record SampleWorld.sample_world {
  arguments = arguments;
  slot_place = λ slot. 1000 + 4 * slot;
  answer = λ events call. Results (map (cut_to number) (types_of call.signature.returns));
  answers_fit = λ events call. cut_fits number (types_of call.signature.returns);
}

-- a call throws to this item, if its table has so many edges, and else it returns zeros
abbrev pub below : ℕ → ℕ → Bool
below k zero = false
below zero (suc n) = true
below (suc k) (suc n) = below k n

below_is : (k n : ℕ) → below k n ≡ true → k < n
below_is k zero is = cc
below_is zero (suc n) is = omega arith
below_is (suc k) (suc n) is = let less = below_is k n is in omega (arith, less)

abbrev pub thrown : ℕ → CallShape → Answer
thrown item call = if below item (edge_count call.items) then Exception item (0 ∷ 0 ∷ []) else Results (map (λ ty. 0) (types_of call.signature.returns))

pub thrown_fits : (item : ℕ) (call : CallShape) → IsAnswerTo call (thrown item call)
thrown_fits item call = by (below item (edge_count call.items)) refl
  where
    by : (c : Bool) → below item (edge_count call.items) ≡ c
        → IsAnswerTo call (if c then Exception item (0 ∷ 0 ∷ []) else Results (map (λ ty. 0) (types_of call.signature.returns)))
    by true is = (below_is item (edge_count call.items) is, (omega arith, (omega arith, tt)))
    by false is = SampleWorld.zeros_fit (types_of call.signature.returns)

abbrev pub throwing : ℕ → List Bits → World
throwing item arguments = record SampleWorld.sample_world {
  arguments = arguments;
  answer = λ events call. thrown item call;
  answers_fit = λ events call. thrown_fits item call;
}

-- a single slot
one_slot : (slot : StackSlotShape) (n : ℕ) (other : StackSlotShape) → slice_get (slot ∷ []) n ≡ Some other → (n ≡ 0) × (slot ≡ other)
one_slot slot zero other is = (refl, (let e : slot ≡ other = cc in e))
one_slot slot (suc n) other is = cc

pub places_one : (world : World) (slot : StackSlotShape) → ((n : ℕ) → world.slot_place n ≡ 1000) → ((a : ℕ) → world.is_accessible a ≡ true)
    → world.pointer_width ≡ 64 → 1000 % 2 ^ slot.align_shift ≡ 0 → 1000 + slot.size ≤ 2 ^ 64 → PlacesSlots world (slot ∷ [])
places_one world slot place accessible wide aligned within = record {
  aligned = λ n x is.
      let only = one_slot slot n x is in
      ap (λ (p : ℕ). p % 2 ^ x.align_shift) (place n) ∙ subst (λ (y : StackSlotShape). 1000 % 2 ^ y.align_shift ≡ 0) only.1 aligned;
  accessible = λ n x k is few. accessible (world.slot_place n + k);
  within = λ n x is.
      let only = one_slot slot n x is in
      subst (λ (w : ℕ). world.slot_place n + x.size ≤ 2 ^ w) (sym wide)
      (subst (λ (p : ℕ). p + x.size ≤ 2 ^ 64) (sym (place n)) (subst (λ (y : StackSlotShape). 1000 + y.size ≤ 2 ^ 64) only.1 within));
  apart = λ n m x other k l is is_other differ few fewer same.
      let first = one_slot slot n x is in let second = one_slot slot m other is_other in differ (first.0 ∙ sym second.0);
}

-- A typed run whose instructions touch no hidden address, in whatever state, is as the law asks.
pub met_by : (members : ℕ → Bool) (s : Spilling) (world : World) → world.pointer_width ≡ bits_of s.pointer → PlacesSlots world s.after.slots
    → IsFunctionTyped (before_run s members world)
    → ((block : ℕ) → AllByRecursion (λ (placed : Placed). (state : FunctionState) → SparesHidden (before_run s members world) state placed)
    (s.before.blocks block).items)
    → IsMetBy members s world
met_by members s world pointers places typed spares =
    typed_runs_meet members s world pointers places typed (λ n.
    let run : FunctionRun = before_run s members world in
    let state : FunctionState = state_after (function_machine run) n in
    next_follows (λ (placed : Placed). (state : FunctionState) → SparesHidden run state placed) (SparesHidden run state) state.control
    (λ placed is. is state) (next_is run (λ (placed : Placed). (state : FunctionState) → SparesHidden run state placed) spares n))
