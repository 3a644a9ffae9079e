-- At the end of the walk: each spilled value has a slot of its size, no slot is shared, and there are few.
use Rattle.std.proofs.Common.{◌≡◌, ◌+◌, ◌≤◌, ◌∙◌, inl, inr, ℕ, true, false, Bool, List, length, drop, Option, None, Some, refl, sym, ap, subst, arith, eqb-true}
use Rattle.std.specs.Prelude.{slice_get, ◌==◌, if◌then◌else◌}
use Rattle.std.specs.FinMap as map
use Rattle.clif_types.specs.StackSlot.{StackSlotShape}
use Rattle.clif_types.specs.Types.{bytes_of}
use Rattle.clif_stack_slots.specs.Sizes.{bytes_in, size_of_bytes}
use Rattle.clif_stack_slots.specs.Slots.{slot_for}
use Rattle.clif_stack_slots.specs.declared.size.SlotSize.{SlotSize}
use Rattle.clif_stack_slots.specs.declared.size.SlotSize.TheVariants as size
use Rattle.clif_meaning.specs.Path.{IsReachable, Place}
use Rattle.clif_meaning.specs.WellPlaced.{WellPlaced, function_flow}
use Rattle.clif_safepoints.proofs.Paths.{place_of_member}
use Rattle.clif_spilling_laws.specs.Live.{IsSlotOf, SharesNoSlot, SpillsLive}
use Rattle.clif_spilling_laws.specs.Spilling.{Spilling}
use Rattle.clif_spilling_laws.proofs.Basics.Lists.{some_same}
use Rattle.clif_spiller.specs.Allocating.{AreLive, AreNeeded, HasFewSlots, IsAllocatedUpTo, IsAssigned, IsHandled, IsLiveBeside, IsWalk, SlotState, added_slots, count_of, every}
use Rattle.clif_spiller.proofs.Allocating.Lists.{get_dropped}
use Rattle.clif_spiller.proofs.Allocating.Places.{block_of_path, inside_of_path}

-- the size of so many bytes has so many
bytes_are : (n : ℕ) (s : SlotSize) → size_of_bytes n ≡ Some s → n ≡ bytes_in s
bytes_are n s is = first (n == 1) refl is
  where
    named : (b : ℕ) (this : SlotSize) → b ≡ bytes_in this → (n == b) ≡ true → ◌≡◌ {A = Option SlotSize} (Some this) (Some s) → n ≡ bytes_in s
    named b this known test same = eqb-true n b test ∙ known ∙ ap bytes_in (some_same this s same)

    fifth : (t : Bool) → (n == 16) ≡ t → (if t then Some size.Size128 else None) ≡ Some s → n ≡ bytes_in s
    fifth true test same = named 16 size.Size128 refl test same
    fifth false test same = absurd cc

    fourth : (t : Bool) → (n == 8) ≡ t → (if t then Some size.Size64 else (if n == 16 then Some size.Size128 else None)) ≡ Some s → n ≡ bytes_in s
    fourth true test same = named 8 size.Size64 refl test same
    fourth false test same = fifth (n == 16) refl same

    third : (t : Bool) → (n == 4) ≡ t
        → (if t then Some size.Size32 else (if n == 8 then Some size.Size64 else (if n == 16 then Some size.Size128 else None))) ≡ Some s → n ≡ bytes_in s
    third true test same = named 4 size.Size32 refl test same
    third false test same = fourth (n == 8) refl same

    second : (t : Bool) → (n == 2) ≡ t
        → (if t then Some size.Size16 else (if n == 4 then Some size.Size32 else (if n == 8 then Some size.Size64 else (if n == 16 then Some size.Size128 else None)))) ≡ Some s
        → n ≡ bytes_in s
    second true test same = named 2 size.Size16 refl test same
    second false test same = third (n == 4) refl same

    first : (t : Bool) → (n == 1) ≡ t
        → (if t then Some size.Size8 else (if n == 2 then Some size.Size16 else (if n == 4 then Some size.Size32 else (if n == 8 then Some size.Size64 else (if n == 16 then Some size.Size128 else None))))) ≡ Some s
        → n ≡ bytes_in s
    first true test same = named 1 size.Size8 refl test same
    first false test same = second (n == 2) refl same

module _ (s : Spilling) (count : ℕ) (order : List ℕ) (walk : IsWalk s.before count s.is_spilled order) (st : SlotState)
    (ended : IsAllocatedUpTo s.before s.is_spilled order (length s.before.slots) order st) where
  -- each place that is reached was handled
  handled : (p : Place ℕ) → IsReachable (function_flow s.before) p → IsHandled s.before order 0 (length (s.before.blocks 0).items) p
  handled p reached = (
    inside_of_path s.before reached.0 p reached.1,
    inl ((walk.ordered.reached p.block).1 (block_of_path s.before reached.0 p reached.1)),
  )

  covers : (p : Place ℕ) → IsReachable (function_flow s.before) p → (v : ℕ) → s.is_spilled v ≡ true → IsLiveBeside s.before p v → IsAssigned st v
  covers p reached v spilled live = (ended 0).covers p v (handled p reached) spilled live

  -- each spilled value has a slot
  pub all_assigned : (members : ℕ → Bool) → SpillsLive every members s → (v : ℕ) → s.is_spilled v ≡ true → IsAssigned st v
  all_assigned members spills v spilled = let across = (spills v).0 spilled in covers across.place across.reachable v spilled (inl (inr across.live))

  -- what has a slot is spilled
  pub spilled_alone : (v : ℕ) → IsAssigned st v → s.is_spilled v ≡ true
  spilled_alone v has = (ended 0).slots.spilled v has.0 has.1

  module _ (slots : s.after.slots ≡ st.slots) (assigned : (v slot : ℕ) → map.get st.assigned v ≡ Some slot → s.slot_of v ≡ slot) where
    -- a slot of its own size
    pub slot_of_size : (v : ℕ) → IsAssigned st v → IsSlotOf s v
    slot_of_size v has =
        let given = (ended 0).slots.given v has.0 has.1 in
        let same : s.slot_of v ≡ has.0 = assigned v has.0 has.1 in
        let bytes : bytes_of (s.before.value_type v) ≡ bytes_in given.size = bytes_are (bytes_of (s.before.value_type v)) given.size given.size_is in
        record {
          slot = slot_for given.size;
          there = ap (λ (xs : List StackSlotShape). slice_get xs (s.slot_of v)) slots ∙ ap (λ (n : ℕ). slice_get st.slots n) same ∙ given.has_size.there;
          beyond = subst (λ (n : ℕ). length s.before.slots ≤ n) (sym same) given.has_size.beyond;
          size = sym bytes;
          align = sym bytes;
        }

    one_slot : WellPlaced s.before → (p : Place ℕ) → IsReachable (function_flow s.before) p → (v w : ℕ) → s.is_spilled v ≡ true → s.is_spilled w ≡ true
        → AreLive s.before p v w → IsAssigned st v → IsAssigned st w → s.slot_of v ≡ s.slot_of w → v ≡ w
    one_slot well p reached v w spilled also live has other same =
        let slot : has.0 ≡ other.0 = sym (assigned v has.0 has.1) ∙ same ∙ assigned w other.0 other.1 in
        ((ended 0).apart well).apart v w has.0 has.1 (other.1 ∙ ap (λ (n : ℕ). Some n) (sym slot)) (spilled, also, p, handled p reached, live)

    -- and of no other value that is live with it
    pub shares_none : WellPlaced s.before → SharesNoSlot every s
    shares_none well = record {
      before = λ p reached v w spilled also live other same.
          one_slot well p reached v w spilled also (inl (live, other)) (covers p reached v spilled (inl live)) (covers p reached w also (inl other)) same;
      after = λ p reached v w spilled also live other same.
          one_slot well p reached v w spilled also (inr (live, other)) (covers p reached v spilled (inr live)) (covers p reached w also (inr other)) same;
    }

    -- and few slots are added
    pub few_slots : HasFewSlots order s
    few_slots = record {
      sized = λ slot member.
          let at = place_of_member (added_slots s) slot member in
          let there : slice_get s.after.slots (length s.before.slots + at.0) ≡ Some slot = get_dropped (length s.before.slots) s.after.slots at.0 slot at.1 in
          (ended 0).slots.made (length s.before.slots + at.0) slot (omega arith)
          (ap (λ (xs : List StackSlotShape). slice_get xs (length s.before.slots + at.0)) (sym slots) ∙ there);
      needed = λ size.
          subst (λ (xs : List StackSlotShape). AreNeeded s.before s.is_spilled order size (count_of size (drop (length s.before.slots) xs))) (sym slots)
          ((ended 0).needed size);
    }
