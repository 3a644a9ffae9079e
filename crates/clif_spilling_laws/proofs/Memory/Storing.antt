-- The stores of values that are just given run: the slot of each one that is needed holds it, and the slots of the others that are
-- needed, all old values, and memory outside spill slots stay.
use Rattle.std.proofs.Common.{◌≡◌, ◌⊎◌, ◌<◌, inl, inr, ℕ, Bool, true, false, List, [], ◌∷◌, refl, sym, ap, subst, ◌∙◌, arith}
use Rattle.std.specs.Prelude.{Contains}
use Rattle.clif_types.specs.Types.{bits_of, bytes_of}
use Rattle.clif_meaning.specs.Bits.{Bits, value_bytes}
use Rattle.clif_meaning.specs.Event.{Event}
use Rattle.clif_meaning.specs.FunctionMachine.{FunctionRun, FunctionState, same_value}
use Rattle.clif_meaning.specs.FunctionView.{Placed}
use Rattle.clif_meaning.specs.Machine.{At}
use Rattle.clif_meaning.specs.Memory.{Memory, bytes_in}
use Rattle.clif_meaning.specs.Store.{assigned}
use Rattle.clif_meaning.specs.World.{World, PlacesSlots}
use Rattle.clif_meaning.proofs.Ranges.{written_leaves}
use Rattle.clif_spilling_laws.specs.Accesses.{state_of, stored}
use Rattle.clif_spilling_laws.specs.Live.{AreApart, IsSlotOf}
use Rattle.clif_spilling_laws.specs.Runs.{after_run, in_spill_slots, slot_range}
use Rattle.clif_spilling_laws.specs.Spilling.{AreStores, IsStore, IsStoredIf, SlotAccess, Spilling, store_item, store_items}
use Rattle.clif_spilling_laws.proofs.Memory.Accesses.{address_step, store_step}
use Rattle.clif_spilling_laws.proofs.Basics.Lists.{assigned_one, contains_cases, contains_first, contains_more, contains_none, member_or_not, true_false}
use Rattle.clif_spilling_laws.proofs.Basics.Passing.{BeginsQuietly, Passes, passes_nothing, passes_some, passes_step}
use Rattle.clif_spilling_laws.proofs.Memory.Reloading.{assigned_apart}
use Rattle.clif_spilling_laws.proofs.Memory.Slots.{other_stays, seen_outside, stored_is_there}

-- the slot of a value holds these bits
abbrev pub HoldsIn : Spilling → World → Memory → ℕ → Bits → Type 0
HoldsIn s world memory v bits = bytes_in memory (slot_range s world v) ≡ value_bytes (bytes_of (s.before.value_type v)) bits

-- the values and memory after the stores of these values
pub record AreStored (s : Spilling) (world : World) (Needed : ℕ → Type 0) (given : List ℕ) (values : ℕ → Bits) (memory : Memory) (new : ℕ → Bits) (after : Memory) : Type 0 where
  pub old : (v : ℕ) → v < s.count → new v ≡ values v
  pub seen : (a : ℕ) → in_spill_slots s world a ≡ false → after a ≡ memory a
  pub stays : (w : ℕ) (bits : Bits) → s.is_spilled w ≡ true → Needed w → (Contains given w → ⊥)
      → HoldsIn s world memory w bits → HoldsIn s world after w bits
  pub puts : (w : ℕ) → s.is_spilled w ≡ true → Contains given w → w < s.count → HoldsIn s world after w (values w)

module _ (s : Spilling) (world : World) (pointers : world.pointer_width ≡ bits_of s.pointer) (places : PlacesSlots world s.after.slots)
    (slots : (v : ℕ) → s.is_spilled v ≡ true → IsSlotOf s v) (Needed : ℕ → Type 0) (apart : AreApart s Needed)
    (itself : (v : ℕ) → s.is_spilled v ≡ true → v < s.count → s.after.resolved v ≡ v)
    (P : FunctionState → Type 0) (events : List Event)
    (through : (values : ℕ → Bits) (memory : Memory) (code : List Placed) → BeginsQuietly code → P (state_of values memory events (At code))) where
  abbrev run : FunctionRun
  run = after_run s world

  abbrev at : (ℕ → Bits) → Memory → List Placed → FunctionState
  at values memory code = state_of values memory events (At code)

  abbrev Stores : List ℕ → (ℕ → Bits) → Memory → List SlotAccess → List Placed → Type 0
  Stores given values memory stores rest =
      (new : ℕ → Bits) × (after : Memory) × AreStored s world Needed given values memory new after
      × Passes run P (at values memory (store_items s stores rest)) (at new after rest)

  nothing_stored : (values : ℕ → Bits) (memory : Memory) (rest : List Placed) → Stores [] values memory [] rest
  nothing_stored values memory rest = (
    values,
    memory,
    record { old = λ v below. refl; seen = λ a h. refl; stays = λ w bits is needed none holds. holds; puts = λ w is h below. absurd (contains_none w h) },
    passes_nothing run P (at values memory rest),
  )

  -- one store, and then those of the others
  module _ (v : ℕ) (given : List ℕ) (a : SlotAccess) (stores : List SlotAccess) (rest : List Placed) (values : ℕ → Bits) (memory : Memory)
      (spilled : s.is_spilled v ≡ true) (below : v < s.count) (needed : Needed v) (is : IsStore s v a) where
    spilled_too : s.is_spilled a.value ≡ true
    spilled_too = subst (λ (w : ℕ). s.is_spilled w ≡ true) (sym is.value) spilled

    below_too : a.value < s.count
    below_too = subst (λ (w : ℕ). w < s.count) (sym is.value) below

    has : IsSlotOf s a.value
    has = slots a.value spilled_too

    abbrev place : ℕ
    place = world.slot_place (s.slot_of a.value)

    abbrev with_address : ℕ → Bits
    with_address = assigned same_value (a.address ∷ []) (place ∷ []) values

    abbrev with_store : Memory
    with_store = stored s world memory a.value (with_address a.value)

    old_values : (w : ℕ) → w < s.count → with_address w ≡ values w
    old_values w low = assigned_apart a.address place values w (λ same. absurd (omega (arith, same, low, is.address.beyond)))

    there : HoldsIn s world with_store a.value (values a.value)
    there =
        stored_is_there s world places a.value has memory (with_address a.value)
        ∙ ap (λ (x : Bits). value_bytes (bytes_of (s.before.value_type a.value)) x) (old_values a.value below_too)

    there_too : HoldsIn s world with_store v (values v)
    there_too = subst (λ (w : ℕ). HoldsIn s world with_store w (values w)) is.value there

    still : (w : ℕ) (bits : Bits) → s.is_spilled w ≡ true → Needed w → (v ≡ w → ⊥) → HoldsIn s world memory w bits → HoldsIn s world with_store w bits
    still w bits spilled_w needed_w other holds =
        other_stays s world places a.value w has (slots w spilled_w) differ memory
        (value_bytes (bytes_of (s.before.value_type a.value)) (with_address a.value))
        ∙ holds
      where
        differ : s.slot_of a.value ≡ s.slot_of w → ⊥
        differ same = other (apart v w spilled spilled_w needed needed_w (ap s.slot_of (sym is.value) ∙ same))

    -- what holds in a slot, said of the values without the address
    moved_back : (m : Memory) (w : ℕ) → w < s.count → HoldsIn s world m w (with_address w) → HoldsIn s world m w (values w)
    moved_back m w low holds = holds ∙ ap (λ (x : Bits). value_bytes (bytes_of (s.before.value_type w)) x) (old_values w low)

    facts : (new : ℕ → Bits) (after : Memory) → AreStored s world Needed given with_address with_store new after
        → AreStored s world Needed (v ∷ given) values memory new after
    facts new after are = record {
      old = λ w low. are.old w low ∙ old_values w low;
      seen = λ b h.
          are.seen b h
          ∙ written_leaves memory (slot_range s world a.value) (value_bytes (bytes_of (s.before.value_type a.value)) (with_address a.value)) b
          (seen_outside s world places a.value has b h);
      stays = λ w bits spilled_w needed_w none holds.
          are.stays w bits spilled_w needed_w (λ h. none (contains_more v w given h))
          (still w bits spilled_w needed_w (λ same. none (subst (λ (u : ℕ). Contains (v ∷ given) u) same (contains_first v given))) holds);
      puts = λ w spilled_w h low. by w spilled_w low (member_or_not w given) (contains_cases v w given h);
    }
      where
        by : (w : ℕ) → s.is_spilled w ≡ true → w < s.count → Contains given w ⊎ (Contains given w → ⊥) → (v ≡ w) ⊎ Contains given w
            → HoldsIn s world after w (values w)
        by w spilled_w low (inl more) which = moved_back after w low (are.puts w spilled_w more low)
        by w spilled_w low (inr none) (inr more) = absurd (none more)
        by w spilled_w low (inr none) (inl same) =
            subst (λ (u : ℕ). HoldsIn s world after u (values u)) same
            (are.stays v (values v) spilled needed (λ h. none (subst (λ (u : ℕ). Contains given u) same h)) there_too)

    one_stored : Stores given with_address with_store stores rest → Stores (v ∷ given) values memory (a ∷ stores) rest
    one_stored more =
        let tail : List Placed = store_items s stores rest in (
          more.0,
          more.1,
          facts more.0 more.1 more.2,
          passes_some run P (at values memory (store_items s (a ∷ stores) rest)) (at more.0 more.1 rest)
              (passes_step run P (at values memory (store_items s (a ∷ stores) rest)) (at with_address memory (store_item s a ∷ tail)) (at more.0 more.1 rest)
              (through values memory (store_items s (a ∷ stores) rest) refl)
              (address_step s world pointers places a (store_item s a ∷ tail) values memory events has)
              (passes_some run P (at with_address memory (store_item s a ∷ tail)) (at more.0 more.1 rest)
              (passes_step run P (at with_address memory (store_item s a ∷ tail)) (at with_address with_store tail) (at more.0 more.1 rest)
              (through with_address memory (store_item s a ∷ tail) refl)
              (store_step s world pointers places a tail with_address memory events has is.address (itself a.value spilled_too below_too)
              (assigned_one a.address place values))
              more.3))),
        )

  -- a value that isn't spilled
  not_stored : (v : ℕ) (given : List ℕ) (stores : List SlotAccess) (rest : List Placed) (values : ℕ → Bits) (memory : Memory)
      → s.is_spilled v ≡ false → Stores given values memory stores rest → Stores (v ∷ given) values memory stores rest
  not_stored v given stores rest values memory unspilled more = (more.0, more.1, facts, more.3)
    where
      facts : AreStored s world Needed (v ∷ given) values memory more.0 more.1
      facts = record {
        old = more.2.old;
        seen = more.2.seen;
        stays = λ w bits spilled needed none holds. more.2.stays w bits spilled needed (λ h. none (contains_more v w given h)) holds;
        puts = λ w spilled h low. by w spilled low (contains_cases v w given h);
      }
        where
          by : (w : ℕ) → s.is_spilled w ≡ true → w < s.count → (v ≡ w) ⊎ Contains given w → HoldsIn s world more.1 w (values w)
          by w spilled low (inl same) =
              true_false (s.is_spilled v) (subst (λ (u : ℕ). s.is_spilled u ≡ true) (sym same) spilled) unspilled
          by w spilled low (inr inside) = more.2.puts w spilled inside low

  pub stores_run : (given : List ℕ) (stores : List SlotAccess) (rest : List Placed) (values : ℕ → Bits) (memory : Memory)
      → AreStores s Needed given stores → ((v : ℕ) → Contains given v → v < s.count)
      → ((v : ℕ) → Contains given v → s.is_spilled v ≡ true → Needed v) → Stores given values memory stores rest
  stores_run [] stores rest values memory are below needed =
      subst (λ (xs : List SlotAccess). Stores [] values memory xs rest) (sym are) (nothing_stored values memory rest)
  stores_run (v ∷ given) stores rest values memory are below needed =
      by (s.is_spilled v) refl stores are (λ others values' memory' are'.
      stores_run given others rest values' memory' are' (λ w h. below w (contains_more v w given h)) (λ w h. needed w (contains_more v w given h)))
    where
      Others : Type 0
      Others = (others : List SlotAccess) (values' : ℕ → Bits) (memory' : Memory) → AreStores s Needed given others → Stores given values' memory' others rest

      begins : s.is_spilled v ≡ true → (xs : List SlotAccess)
          → IsStoredIf true (Needed v → ⊥) (IsStore s v) (AreStores s Needed given) xs → Others → Stores (v ∷ given) values memory xs rest
      begins spilled [] (inl none) others = absurd none
      begins spilled (a ∷ xs) (inl is) others =
          one_stored v given a xs rest values memory spilled (below v (contains_first v given)) (needed v (contains_first v given) spilled) is.0
          (others xs (assigned same_value (a.address ∷ []) (world.slot_place (s.slot_of a.value) ∷ []) values)
          (stored s world memory a.value (assigned same_value (a.address ∷ []) (world.slot_place (s.slot_of a.value) ∷ []) values a.value)) is.1)
      begins spilled xs (inr unneeded) others = absurd (unneeded.0 (needed v (contains_first v given) spilled))

      by : (c : Bool) → s.is_spilled v ≡ c → (xs : List SlotAccess)
          → IsStoredIf c (Needed v → ⊥) (IsStore s v) (AreStores s Needed given) xs → Others → Stores (v ∷ given) values memory xs rest
      by true spilled xs is others = begins spilled xs is others
      by false unspilled xs is others = not_stored v given xs rest values memory unspilled (others xs values memory is)
