-- A reload and a store run, in two steps of the function's machine each.
use Rattle.std.proofs.Common.{◌≡◌, ◌<◌, ◌+◌, ◌%◌, ◌^◌, ◌==◌, ℕ, true, List, [], ◌∷◌, refl, sym, ap, subst, ◌∙◌, arith, Option}
use Rattle.std.specs.Prelude.{pos}
use Rattle.std.proofs.Math.Nat.{mod-eq_of_lt}
use Rattle.clif_types.specs.Types.{bits_of, bytes_of}
use Rattle.clif_types.specs.declared.types.«Type».{«Type»}
use Rattle.clif_meaning.specs.Bits.{Bits, value_bytes, value_of_bytes}
use Rattle.clif_meaning.specs.Event.{Event}
use Rattle.clif_meaning.specs.FunctionMachine.{FunctionRun, FunctionState, carry_out, function_step, same_value}
use Rattle.clif_meaning.specs.FunctionView.{Placed}
use Rattle.clif_meaning.specs.Machine.{At}
use Rattle.clif_meaning.specs.Memory.{Memory, Range, bytes_in, written}
use Rattle.clif_meaning.specs.Outcome.{Outcome, Gives, access_outcome, accessed, are_accessible, low_bits_at, slot_address}
use Rattle.clif_meaning.specs.Store.{assigned}
use Rattle.clif_meaning.specs.World.{World, PlacesSlots}
use Rattle.clif_meaning.proofs.SampleWorld.{pow_pos}
use Rattle.clif_spilling_laws.specs.Accesses.{loaded, reloaded, state_of, stored}
use Rattle.clif_spilling_laws.specs.Live.{IsSlotOf}
use Rattle.clif_spilling_laws.specs.Runs.{after_run, slot_range}
use Rattle.clif_spilling_laws.specs.Spilling.{IsNew, Reload, SlotAccess, Spilling, address_item, load_item, store_item, trusted}
use Rattle.clif_spilling_laws.proofs.Basics.Lists.{assigned_one}
use Rattle.clif_spilling_laws.proofs.Memory.Slots.{slot_accessible, slot_aligned, slot_starts}

-- an access that is aligned and whose bytes are accessible does what it does
access_runs : (world : World) (region : Option ℕ) (range : Range) (outcome : Outcome) → (range.start % range.size == 0) ≡ true
    → are_accessible world range range.size ≡ true → access_outcome world (trusted region) range outcome ≡ outcome
access_runs world region range outcome aligned accessible = rw (aligned, accessible) refl

plus_zero : (n : ℕ) → n + 0 ≡ n
plus_zero n = omega arith

zero_added : (n width : ℕ) → n < 2 ^ width → (n + 0 % 2 ^ width) % 2 ^ width ≡ n
zero_added n width below =
    ap (λ (m : ℕ). (n + m) % 2 ^ width) (mod-eq_of_lt (pow_pos width)) ∙ ap (λ (m : ℕ). m % 2 ^ width) (plus_zero n) ∙ mod-eq_of_lt below

module _ (s : Spilling) (world : World) (pointers : world.pointer_width ≡ bits_of s.pointer) (places : PlacesSlots world s.after.slots) where
  abbrev run : FunctionRun
  run = after_run s world

  abbrev place : ℕ → ℕ
  place v = world.slot_place (s.slot_of v)

  module _ (v : ℕ) (has : IsSlotOf s v) where
    starts : place v < 2 ^ bits_of s.pointer
    starts = subst (λ (w : ℕ). place v < 2 ^ w) pointers (slot_starts s world places v has)

    place_is : low_bits_at s.pointer (slot_address world (s.slot_of v) (pos 0)) ≡ place v
    place_is =
        ap (λ (m : ℕ). m % 2 ^ bits_of s.pointer) (zero_added (place v) world.pointer_width (slot_starts s world places v has))
        ∙ mod-eq_of_lt starts

    range_is : (address : ℕ) (values : ℕ → Bits) → IsNew s s.pointer address → values address ≡ place v
        → accessed (s.before.value_type v) (s.after.value_type address) (values (s.after.resolved address)) (pos 0) ≡ slot_range s world v
    range_is address values new holds =
        (λ i. accessed (s.before.value_type v) (new.typed i) (bits i) (pos 0)) ∙ whole
      where
        bits : values (s.after.resolved address) ≡ place v
        bits = ap values new.itself ∙ holds

        whole : accessed (s.before.value_type v) s.pointer (place v) (pos 0) ≡ slot_range s world v
        whole = λ i. record {
          width = sym pointers i;
          start = zero_added (place v) (bits_of s.pointer) starts i;
          size = bytes_of (s.before.value_type v);
        }

    runs : (region : Option ℕ) (outcome : Outcome) → access_outcome world (trusted region) (slot_range s world v) outcome ≡ outcome
    runs region outcome =
        access_runs world region (slot_range s world v) outcome (slot_aligned s world places v has) (slot_accessible s world places v has)

  pub address_step : (a : SlotAccess) (rest : List Placed) (values : ℕ → Bits) (memory : Memory) (events : List Event) → IsSlotOf s a.value
      → function_step run (state_of values memory events (At (address_item s a ∷ rest)))
      ≡ state_of (assigned same_value (a.address ∷ []) (place a.value ∷ []) values) memory events (At rest)
  address_step a rest values memory events has =
      ap (λ (x : Bits). state_of (assigned same_value (a.address ∷ []) (x ∷ []) values) memory events (At rest)) (place_is a.value has)

  pub load_step : (x : Reload) (rest : List Placed) (values : ℕ → Bits) (memory : Memory) (events : List Event) → IsSlotOf s x.access.value
      → IsNew s s.pointer x.access.address → values x.access.address ≡ place x.access.value
      → function_step run (state_of values memory events (At (load_item s x ∷ rest)))
      ≡ state_of (assigned same_value (x.copy ∷ []) (loaded s world memory x.access.value ∷ []) values) memory events (At rest)
  load_step x rest values memory events has new holds =
      ap (λ (r : Range). does (access_outcome world (trusted x.access.region) r (Gives (low_bits_at ty (value_of_bytes (bytes_in memory r)) ∷ []) memory)))
      (range_is x.access.value has x.access.address values new holds)
      ∙ ap does (runs x.access.value has x.access.region (Gives (loaded s world memory x.access.value ∷ []) memory))
    where
      ty : «Type»
      ty = s.before.value_type x.access.value

      does : Outcome → FunctionState
      does outcome = carry_out run (state_of values memory events (At (load_item s x ∷ rest))) (load_item s x) rest outcome

  pub store_step : (a : SlotAccess) (rest : List Placed) (values : ℕ → Bits) (memory : Memory) (events : List Event) → IsSlotOf s a.value
      → IsNew s s.pointer a.address → s.after.resolved a.value ≡ a.value → values a.address ≡ place a.value
      → function_step run (state_of values memory events (At (store_item s a ∷ rest)))
      ≡ state_of values (stored s world memory a.value (values a.value)) events (At rest)
  store_step a rest values memory events has new itself holds =
      ap (λ (r : Range). does (access_outcome world (trusted a.region) r (Gives [] (written memory r (value_bytes r.size (values (s.after.resolved a.value)))))))
      (range_is a.value has a.address values new holds)
      ∙ ap does (runs a.value has a.region (Gives [] (stored s world memory a.value (values (s.after.resolved a.value)))))
      ∙ ap (λ (w : ℕ). state_of values (stored s world memory a.value (values w)) events (At rest)) itself
    where
      does : Outcome → FunctionState
      does outcome = carry_out run (state_of values memory events (At (store_item s a ∷ rest))) (store_item s a) rest outcome

  -- a reload: the address, and the copy
  pub reload_runs : (x : Reload) (rest : List Placed) (values : ℕ → Bits) (memory : Memory) (events : List Event) → IsSlotOf s x.access.value
      → IsNew s s.pointer x.access.address
      → function_step run (function_step run (state_of values memory events (At (address_item s x.access ∷ load_item s x ∷ rest))))
      ≡ state_of (reloaded s world memory x values) memory events (At rest)
  reload_runs x rest values memory events has new =
      ap (function_step run) (address_step x.access (load_item s x ∷ rest) values memory events has)
      ∙ load_step x rest (assigned same_value (x.access.address ∷ []) (place x.access.value ∷ []) values) memory events has new
      (assigned_one x.access.address (place x.access.value) values)
