-- The examples on memory.
use Rattle.std.proofs.Common.{◌≡◌, ◌≢◌, ◌<◌, ◌≤◌, ◌+◌, ◌%◌, ◌^◌, ℕ, zero, suc, true, false, List, [], ◌∷◌, refl, sym, ap, subst, arith, Some, slice_get}
use Rattle.std.proofs.lemmas.Bool.{lt-ltb}
use Rattle.std.specs.Prelude.{IsTrue}
use Rattle.clif_types.specs.StackSlot.{StackSlotShape}
use Rattle.clif_meaning.specs.Bits.{Bits}
use Rattle.clif_meaning.specs.FunctionView.{FunctionView}
use Rattle.clif_meaning.specs.World.{World, PlacesSlots}
use Rattle.clif_premise_examples.specs.Examples.{at_address, memory_slots, on_memory, placed}
use Rattle.clif_premise_examples.specs.Premise.{Arguments, ClaimsTrue, FailsAlone, GivenBefore, Holds, IsTyped, LibcAsNamed, MeetsAll, Pointers, Situation, Slots, SparesSpills, TargetsFilled, TrackedApart, run_in}
use Rattle.clif_premise_examples.proofs.Blocks.{each_item}
use Rattle.clif_premise_examples.proofs.Given.{well_placed}
use Rattle.clif_premise_examples.proofs.Running.{all_spared, all_true}
use Rattle.clif_premise_examples.proofs.Situations.{named, targets, tracked}

-- SLOTS -------------------------------------------------------------------------------------------------------------------

same_slot : (slot other : StackSlotShape) → Some slot ≡ Some other → slot ≡ other
same_slot slot other same = cc

module _ (arguments : List Bits) (width : ℕ) (world : World) where
  abbrev here : World
  here = placed arguments width 256 264 world

  abbrev whole : StackSlotShape
  whole = record { size = 8; align_shift = 3 }

  abbrev byte : StackSlotShape
  byte = record { size = 1; align_shift = 0 }

  size_is : (a b : StackSlotShape) → Some a ≡ Some b → b.size ≡ a.size
  size_is a b same = ap (λ (x : StackSlotShape). x.size) (sym (same_slot a b same))

  pub slots_placed : 265 ≤ 2 ^ width → PlacesSlots here memory_slots
  slots_placed wide = record { aligned = aligned; accessible = accessible; within = within; apart = apart }
    where
      aligned : (s : ℕ) (slot : StackSlotShape) → slice_get memory_slots s ≡ Some slot → here.slot_place s % 2 ^ slot.align_shift ≡ 0
      aligned zero slot h = subst (λ (x : StackSlotShape). 256 % 2 ^ x.align_shift ≡ 0) (same_slot whole slot h) refl
      aligned (suc zero) slot h = subst (λ (x : StackSlotShape). 264 % 2 ^ x.align_shift ≡ 0) (same_slot byte slot h) refl
      aligned (suc (suc s)) slot h = cc

      accessible : (s : ℕ) (slot : StackSlotShape) (k : ℕ) → slice_get memory_slots s ≡ Some slot → k < slot.size → IsTrue (here.is_accessible (here.slot_place s + k))
      accessible zero slot k h below = lt-ltb (256 + k) 1024 (omega (arith, below, size_is whole slot h))
      accessible (suc zero) slot k h below = lt-ltb (264 + k) 1024 (omega (arith, below, size_is byte slot h))
      accessible (suc (suc s)) slot k h below = cc

      within : (s : ℕ) (slot : StackSlotShape) → slice_get memory_slots s ≡ Some slot → here.slot_place s + slot.size ≤ 2 ^ here.pointer_width
      within zero slot h = let e : slot.size ≡ 8 = size_is whole slot h in omega (arith, wide, e)
      within (suc zero) slot h = let e : slot.size ≡ 1 = size_is byte slot h in omega (arith, wide, e)
      within (suc (suc s)) slot h = cc

      apart : (s t : ℕ) (slot other : StackSlotShape) (k l : ℕ) → slice_get memory_slots s ≡ Some slot → slice_get memory_slots t ≡ Some other → s ≢ t
          → k < slot.size → l < other.size → here.slot_place s + k ≢ here.slot_place t + l
      apart zero zero slot other k l g h differ below under same = absurd (differ refl)
      apart zero (suc zero) slot other k l g h differ below under same = let e : slot.size ≡ 8 = size_is whole slot g in absurd (omega (arith, below, e, same))
      apart zero (suc (suc t)) slot other k l g h differ below under same = cc
      apart (suc zero) zero slot other k l g h differ below under same = let e : other.size ≡ 8 = size_is whole other h in absurd (omega (arith, under, e, same))
      apart (suc zero) (suc zero) slot other k l g h differ below under same = absurd (differ refl)
      apart (suc zero) (suc (suc t)) slot other k l g h differ below under same = cc
      apart (suc (suc s)) t slot other k l g h differ below under same = cc

-- THE CALLS ON MEMORY -----------------------------------------------------------------------------------------------------

module _ (arguments : List Bits) (width first second : ℕ) (function : FunctionView) (world : World) where
  abbrev there : Situation
  there = on_memory arguments width first second function world

  typed : Holds there IsTyped
  typed = record {
    items = each_item there.calls _ (
      (
        record { made_at = refl; operands = (refl, tt); edges = tt },
        (
          record { made_at = refl; operands = (refl, (refl, tt)); edges = tt },
          (
            record { made_at = refl; operands = (refl, tt); edges = tt },
            (record { made_at = refl; operands = tt; edges = tt }, (record { made_at = refl; operands = refl; edges = tt }, tt)),
          ),
        ),
      ),
      tt,
    );
    entry = refl;
  }

  -- the premises that don't depend on the world, before others
  static : {R : Type 0} → R → Holds there TargetsFilled × (Holds there IsTyped × (Holds there GivenBefore × (Holds there TrackedApart × R)))
  static rest = (targets there (refl, tt), (typed, (well_placed there.calls (refl, tt), (tracked there (refl, tt), rest))))

  libc : Holds there LibcAsNamed
  libc = named there (refl, tt)

module _ (function : FunctionView) (world : World) where
  abbrev at : ℕ → Situation
  at address = at_address address function world

  abbrev slots_there : (address : ℕ) → Holds (at address) Slots
  slots_there address = slots_placed (address ∷ []) 64 world (omega arith)

  libc_named : (address : ℕ) → Holds (at address) LibcAsNamed
  libc_named address = libc (address ∷ []) 64 256 264 function world

  pub memory : MeetsAll (at 64)
  memory = record {
    accepted = refl;
    holds = (
      (omega arith, tt),
      (
        refl,
        (
          slots_there 64,
          static (64 ∷ []) 64 256 264 function world
              (all_spared (run_in (at 64)) 5 refl, (all_true (run_in (at 64)) 5 refl, (libc_named 64, tt))),
        ),
      ),
    );
  }

  pub arguments : FailsAlone Arguments (at (2 ^ 64 + 64))
  arguments = record {
    accepted = refl;
    fails = λ fit. absurd (omega (arith, fit.0));
    others = (
      refl,
      (
        slots_there (2 ^ 64 + 64),
        static ((2 ^ 64 + 64) ∷ []) 64 256 264 function world
            (all_spared (run_in (at (2 ^ 64 + 64))) 5 refl, (all_true (run_in (at (2 ^ 64 + 64))) 5 refl, (libc_named (2 ^ 64 + 64), tt))),
      ),
    );
  }

  abbrev narrow : Situation
  narrow = on_memory (64 ∷ []) 32 256 264 function world

  pub pointers : FailsAlone Pointers (on_memory (64 ∷ []) 32 256 264 function world)
  pointers = record {
    accepted = refl;
    fails = λ same. absurd (omega (arith, same));
    others = (
      (omega arith, tt),
      (
        slots_placed (64 ∷ []) 32 world (omega arith),
        static (64 ∷ []) 32 256 264 function world
            (all_spared (run_in narrow) 5 refl, (all_true (run_in narrow) 5 refl, (libc (64 ∷ []) 32 256 264 function world, tt))),
      ),
    );
  }

  abbrev moved : Situation
  moved = on_memory (64 ∷ []) 64 257 265 function world

  pub slots : FailsAlone Slots (on_memory (64 ∷ []) 64 257 265 function world)
  slots = record {
    accepted = refl;
    fails = λ placed. let no : 1 ≡ 0 = placed.aligned 0 _ refl in absurd (omega (arith, no));
    others = (
      (omega arith, tt),
      (
        refl,
        static (64 ∷ []) 64 257 265 function world
            (all_spared (run_in moved) 5 refl, (all_true (run_in moved) 5 refl, (libc (64 ∷ []) 64 257 265 function world, tt))),
      ),
    );
  }

  pub spills : FailsAlone SparesSpills (at 264)
  spills = record {
    accepted = refl;
    fails = λ spares. let no : true ≡ false = (spares 0).0 264 refl in cc;
    others = ((omega arith, tt), (refl, (slots_there 264, static (264 ∷ []) 64 256 264 function world (all_true (run_in (at 264)) 5 refl, (libc_named 264, tt)))));
  }

  pub accessible : FailsAlone ClaimsTrue (at 1024)
  accessible = record {
    accepted = refl;
    fails = λ claims. let no : false ≡ true = (claims 0).0 0 (omega arith) in cc;
    others = ((omega arith, tt), (refl, (slots_there 1024, static (1024 ∷ []) 64 256 264 function world (all_spared (run_in (at 1024)) 1 refl, (libc_named 1024, tt)))));
  }

  pub aligned : FailsAlone ClaimsTrue (at 68)
  aligned = record {
    accepted = refl;
    fails = λ claims. let multiple = (claims 0).1.0 in no (subst (λ (n : ℕ). 68 % n ≡ 0) (sym multiple.1) multiple.2);
    others = ((omega arith, tt), (refl, (slots_there 68, static (68 ∷ []) 64 256 264 function world (all_spared (run_in (at 68)) 1 refl, (libc_named 68, tt)))));
  }
    where
      no : 68 % 8 ≡ 0 → ⊥
      no is = absurd (omega (arith, is))
