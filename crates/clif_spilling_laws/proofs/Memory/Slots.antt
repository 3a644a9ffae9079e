-- Bytes of spill slots: where they lie, that they are hidden, apart and accessible, and that what is stored is loaded.
use Rattle.std.proofs.Common.{◌≡◌, ◌⊎◌, ◌<◌, ◌≤◌, ◌+◌, ◌-◌, ◌*◌, ◌/◌, ◌%◌, ◌^◌, ◌==◌, ◌&&◌, ◌||◌, inl, inr, ℕ, zero, suc, Bool, true, false, List, [], ◌∷◌, length, drop, refl, sym, ap, subst, ◌∙◌, arith, Option, Some, None}
use Rattle.std.specs.Prelude.{slice_get, nat_lt, nat_le}
use Rattle.std.proofs.Math.Nat.{mod-eq_of_lt, add-mod_right}
use Rattle.std.proofs.lemmas.Bool.{and_parts, cases_lt, eq-eqb, le-leb, lt-ltb, ltb-true}
use Rattle.clif_types.specs.StackSlot.{StackSlotShape}
use Rattle.clif_types.specs.Types.{bits_of, bytes_of, lane_bits_of, lanes_of}
use Rattle.clif_types.specs.declared.types.LaneType.{LaneType}
use Rattle.clif_types.specs.declared.types.LaneType.TheVariants.{I8, I16, I32, I64, I128, F16, F32, F64, F128}
use Rattle.clif_types.specs.declared.types.«Type».{«Type»}
use Rattle.clif_types.specs.declared.types.«Type».TheVariants.{Invalid, Lane, Vector}
use Rattle.clif_meaning.specs.Bits.{Bits, IsValue, value_bytes, value_of_bytes}
use Rattle.clif_meaning.specs.Memory.{Memory, Range, IsProper, address_in, bytes_from, bytes_in, index_in, lies_in, written}
use Rattle.clif_meaning.specs.Outcome.{are_accessible, low_bits_at}
use Rattle.clif_meaning.specs.Store.{in_slot, in_slots_from}
use Rattle.clif_meaning.specs.World.{World, PlacesSlots}
use Rattle.clif_meaning.proofs.BitLists.{value_as_many, value_spelled}
use Rattle.clif_meaning.proofs.Ranges.{written_leaves, written_read}
use Rattle.clif_meaning.proofs.SampleWorld.{pow_pos}
use Rattle.clif_spilling_laws.specs.Live.{IsSlotOf}
use Rattle.clif_spilling_laws.specs.Runs.{in_spill_slots, slot_range}
use Rattle.clif_spilling_laws.specs.Spilling.{Spilling}

-- WHOLE BYTES -----------------------------------------------------------------------------------------------------------

whole_lane : (lane : LaneType) → 8 * (lane_bits_of lane / 8) ≡ lane_bits_of lane
whole_lane I8 = refl
whole_lane I16 = refl
whole_lane I32 = refl
whole_lane I64 = refl
whole_lane I128 = refl
whole_lane F16 = refl
whole_lane F32 = refl
whole_lane F64 = refl
whole_lane F128 = refl

pub whole_type : (ty : «Type») → 8 * bytes_of ty ≡ bits_of ty
whole_type Invalid = refl
whole_type (Lane lane) = whole_lane lane
whole_type (Vector lane count) = by (lanes_of count) (lane_bits_of lane) (whole_lane lane)
  where
    multiple : (n m : ℕ) → 8 * (n * (8 * m) / 8) ≡ n * (8 * m)
    multiple n m = let e : n * (8 * m) / 8 ≡ n * m = omega arith in omega (arith, e)

    by : (n b : ℕ) → 8 * (b / 8) ≡ b → 8 * (n * b / 8) ≡ n * b
    by n b e = subst (λ (m : ℕ). 8 * (n * m / 8) ≡ n * m) e (multiple n (b / 8))

-- RANGES ----------------------------------------------------------------------------------------------------------------

-- two memories with the same bytes in a range read alike
alike : (left right : Memory) (width start size : ℕ)
    → ((k : ℕ) → k < size → left ((start + k) % 2 ^ width) ≡ right ((start + k) % 2 ^ width))
    → bytes_from left width start size ≡ bytes_from right width start size
alike left right width start zero same = refl
alike left right width start (suc size) same =
    let first : left (start % 2 ^ width) ≡ right (start % 2 ^ width) =
    ap (λ (n : ℕ). left (n % 2 ^ width)) (at_zero start) ∙ same zero (omega arith) ∙ ap (λ (n : ℕ). right (n % 2 ^ width)) (sym (at_zero start)) in
    let rest = alike left right width (start + 1) size (λ k below.
    ap (λ (n : ℕ). left (n % 2 ^ width)) (one_on start k) ∙ same (suc k) (omega arith) ∙ ap (λ (n : ℕ). right (n % 2 ^ width)) (sym (one_on start k))) in
    ap (λ (b : ℕ). b ∷ bytes_from left width (start + 1) size) first ∙ ap (λ (bs : List ℕ). right (start % 2 ^ width) ∷ bs) rest
  where
    at_zero : (a : ℕ) → a ≡ a + 0
    at_zero a = omega arith

    one_on : (a k : ℕ) → a + 1 + k ≡ a + suc k
    one_on a k = omega arith

pub same_bytes : (left right : Memory) (range : Range) → ((k : ℕ) → k < range.size → left (address_in range k) ≡ right (address_in range k))
    → bytes_in left range ≡ bytes_in right range
same_bytes left right range same = alike left right range.width range.start range.size same

not_true : (b : Bool) → (b ≡ true → ⊥) → b ≡ false
not_true true none = absurd (none refl)
not_true false none = refl

-- the range ends within the width
abbrev pub Fits : Range → Type 0
Fits range = range.start + range.size ≤ 2 ^ range.width

-- a byte of such a range, by its place in it
pub address_is : (range : Range) (k : ℕ) → Fits range → k < range.size → address_in range k ≡ range.start + k
address_is range k fits inside = mod-eq_of_lt (omega (arith, fits, inside))

-- and an address that lies in it is one of these
pub lies_at : (range : Range) (address : ℕ) → Fits range → lies_in range address ≡ true
    → (k : ℕ) × (k < range.size) × (address ≡ range.start + k)
lies_at range address fits lies = by (cases_lt address range.start)
  where
    parts : (nat_lt address (2 ^ range.width) ≡ true) × (nat_lt (index_in range address) range.size ≡ true)
    parts = and_parts (nat_lt address (2 ^ range.width)) (nat_lt (index_in range address) range.size) lies

    below : address < 2 ^ range.width
    below = ltb-true address (2 ^ range.width) parts.0

    inside : index_in range address < range.size
    inside = ltb-true (index_in range address) range.size parts.1

    by : (address < range.start) ⊎ (range.start ≤ address) → (k : ℕ) × (k < range.size) × (address ≡ range.start + k)
    by (inl early) =
        let wraps : index_in range address ≡ address + 2 ^ range.width - range.start = mod-eq_of_lt (omega (arith, early, below)) in
        absurd (omega (arith, wraps, inside, fits, early))
    by (inr late) =
        let round : address + 2 ^ range.width - range.start ≡ (address - range.start) + 2 ^ range.width = omega (arith, late) in
        let index : index_in range address ≡ address - range.start =
        ap (λ (n : ℕ). n % 2 ^ range.width) round ∙ add-mod_right (address - range.start) (2 ^ range.width)
        ∙ mod-eq_of_lt (omega (arith, below)) in
        (address - range.start, subst (λ (n : ℕ). n < range.size) index inside, omega (arith, late))

-- each byte is accessible, where each one by its place is
pub all_accessible : (world : World) (range : Range) (count : ℕ) → ((k : ℕ) → k < count → world.is_accessible (address_in range k) ≡ true)
    → are_accessible world range count ≡ true
all_accessible world range zero each = refl
all_accessible world range (suc count) each =
    let first : world.is_accessible (address_in range count) ≡ true = each count (omega arith) in
    let rest : are_accessible world range count ≡ true = all_accessible world range count (λ k below. each k (omega (arith, below))) in
    rw (first, rest) refl

-- SLOTS -----------------------------------------------------------------------------------------------------------------

drop_get : {X : Type 0} (n : ℕ) (xs : List X) (j : ℕ) → slice_get (drop n xs) j ≡ slice_get xs (n + j)
drop_get zero [] j = refl
drop_get zero (x ∷ xs) j = ap (λ (i : ℕ). slice_get (x ∷ xs) i) (from_zero j)
  where
    from_zero : (j : ℕ) → j ≡ 0 + j
    from_zero j = omega arith
drop_get (suc n) [] j = refl
drop_get (suc n) (x ∷ xs) j = drop_get n xs j ∙ ap (λ (i : ℕ). slice_get (x ∷ xs) i) (one_more n j)
  where
    one_more : (n j : ℕ) → suc (n + j) ≡ suc n + j
    one_more n j = omega arith

or_first : (a b : Bool) → a ≡ true → (a || b) ≡ true
or_first true b h = refl
or_first false b h = cc

or_second : (a b : Bool) → b ≡ true → (a || b) ≡ true
or_second true b h = refl
or_second false b h = h

and_true : (a b : Bool) → a ≡ true → b ≡ true → (a && b) ≡ true
and_true true b g h = h
and_true false b g h = cc

some_is : {X : Type 0} (x y : X) → ◌≡◌ {A = Option X} (Some x) (Some y) → x ≡ y
some_is x y e = cc

no_slot : {X : Type 0} (x : X) → ◌≡◌ {A = Option X} None (Some x) → ⊥
no_slot x e = cc

-- a byte of a slot of the list is found in the list
found_in : (world : World) (n : ℕ) (slots : List StackSlotShape) (j : ℕ) (slot : StackSlotShape) (address : ℕ)
    → slice_get slots j ≡ Some slot → in_slot world (n + j) slot address ≡ true → in_slots_from world n slots address ≡ true
found_in world n [] j slot address there inside = absurd (no_slot slot there)
found_in world n (other ∷ slots) zero slot address there inside =
    or_first (in_slot world n other address) (in_slots_from world (suc n) slots address)
    (subst (λ (x : StackSlotShape). in_slot world n x address ≡ true) (sym (some_is other slot there))
    (subst (λ (m : ℕ). in_slot world m slot address ≡ true) (to_zero n) inside))
  where
    to_zero : (n : ℕ) → n + 0 ≡ n
    to_zero n = omega arith
found_in world n (other ∷ slots) (suc j) slot address there inside =
    or_second (in_slot world n other address) (in_slots_from world (suc n) slots address)
    (found_in world (suc n) slots j slot address there (subst (λ (m : ℕ). in_slot world m slot address ≡ true) (one_on n j) inside))
  where
    one_on : (n j : ℕ) → n + suc j ≡ suc n + j
    one_on n j = omega arith

module _ (s : Spilling) (world : World) (places : PlacesSlots world s.after.slots) where
  module _ (v : ℕ) (has : IsSlotOf s v) where
    pub slot_fits : Fits (slot_range s world v)
    slot_fits = subst (λ (n : ℕ). world.slot_place (s.slot_of v) + n ≤ 2 ^ world.pointer_width) has.size (places.within (s.slot_of v) has.slot has.there)

    pub slot_filled : 0 < bytes_of (s.before.value_type v)
    slot_filled = subst (λ (n : ℕ). 0 < n) has.align (pow_pos has.slot.align_shift)

    pub slot_starts : world.slot_place (s.slot_of v) < 2 ^ world.pointer_width
    slot_starts = omega (arith, slot_fits, slot_filled)

    pub slot_proper : IsProper (slot_range s world v)
    slot_proper = record { start = slot_starts; size = omega (arith, slot_fits) }

    pub slot_aligned : (world.slot_place (s.slot_of v) % bytes_of (s.before.value_type v) == 0) ≡ true
    slot_aligned =
        eq-eqb (world.slot_place (s.slot_of v) % bytes_of (s.before.value_type v)) 0
        (subst (λ (n : ℕ). world.slot_place (s.slot_of v) % n ≡ 0) has.align (places.aligned (s.slot_of v) has.slot has.there))

    in_size : (k : ℕ) → k < bytes_of (s.before.value_type v) → k < has.slot.size
    in_size k inside = subst (λ (n : ℕ). k < n) (sym has.size) inside

    pub slot_accessible : are_accessible world (slot_range s world v) (bytes_of (s.before.value_type v)) ≡ true
    slot_accessible =
        all_accessible world (slot_range s world v) (bytes_of (s.before.value_type v)) (λ k inside.
        subst (λ (a : ℕ). world.is_accessible a ≡ true) (sym (address_is (slot_range s world v) k slot_fits inside))
        (places.accessible (s.slot_of v) has.slot k has.there (in_size k inside)))

    -- each byte of the slot is hidden
    pub slot_hidden : (k : ℕ) → k < bytes_of (s.before.value_type v) → in_spill_slots s world (world.slot_place (s.slot_of v) + k) ≡ true
    slot_hidden k inside =
        found_in world (length s.before.slots) (drop (length s.before.slots) s.after.slots) (s.slot_of v - length s.before.slots) has.slot
        (world.slot_place (s.slot_of v) + k)
        (drop_get (length s.before.slots) s.after.slots (s.slot_of v - length s.before.slots) ∙ ap (λ (i : ℕ). slice_get s.after.slots i) whole ∙ has.there)
        (subst (λ (n : ℕ). in_slot world n has.slot (world.slot_place (s.slot_of v) + k) ≡ true) (sym whole) there)
      where
        whole : length s.before.slots + (s.slot_of v - length s.before.slots) ≡ s.slot_of v
        whole = omega (arith, has.beyond)

        there : in_slot world (s.slot_of v) has.slot (world.slot_place (s.slot_of v) + k) ≡ true
        there = let small = in_size k inside in
            and_true (nat_le (world.slot_place (s.slot_of v)) (world.slot_place (s.slot_of v) + k))
            (nat_lt (world.slot_place (s.slot_of v) + k) (world.slot_place (s.slot_of v) + has.slot.size))
            (le-leb (world.slot_place (s.slot_of v)) (world.slot_place (s.slot_of v) + k) (omega arith))
            (lt-ltb (world.slot_place (s.slot_of v) + k) (world.slot_place (s.slot_of v) + has.slot.size) (omega (arith, small)))

    -- so an address that isn't hidden doesn't lie in it
    pub seen_outside : (address : ℕ) → in_spill_slots s world address ≡ false → lies_in (slot_range s world v) address ≡ false
    seen_outside address seen = not_true (lies_in (slot_range s world v) address) (λ lies.
        let at = lies_at (slot_range s world v) address slot_fits lies in
        no_way (in_spill_slots s world address) (subst (λ (a : ℕ). in_spill_slots s world a ≡ true) (sym at.2) (slot_hidden at.0 at.1)) seen)
      where
        no_way : (b : Bool) → b ≡ true → b ≡ false → ⊥
        no_way b is not = cc

    -- two memories with the same hidden bytes hold the same in it
    pub same_in_slot : (left right : Memory) → ((address : ℕ) → in_spill_slots s world address ≡ true → left address ≡ right address)
        → bytes_in left (slot_range s world v) ≡ bytes_in right (slot_range s world v)
    same_in_slot left right same = same_bytes left right (slot_range s world v) (λ k inside.
        same (address_in (slot_range s world v) k)
        (subst (λ (a : ℕ). in_spill_slots s world a ≡ true) (sym (address_is (slot_range s world v) k slot_fits inside)) (slot_hidden k inside)))

    -- what is stored in it stays there until it is loaded
    pub stored_is_there : (memory : Memory) (bits : Bits)
        → bytes_in (written memory (slot_range s world v) (value_bytes (bytes_of (s.before.value_type v)) bits)) (slot_range s world v)
        ≡ value_bytes (bytes_of (s.before.value_type v)) bits
    stored_is_there memory bits =
        written_read memory (slot_range s world v) (value_bytes (bytes_of (s.before.value_type v)) bits) slot_proper
        (value_as_many (bytes_of (s.before.value_type v)) bits)

    pub spelled_back : (bits : Bits) → IsValue (s.before.value_type v) bits → value_of_bytes (value_bytes (bytes_of (s.before.value_type v)) bits) ≡ bits
    spelled_back bits fits =
        value_spelled (bytes_of (s.before.value_type v)) bits (subst (λ (n : ℕ). bits < 2 ^ n) (sym (whole_type (s.before.value_type v))) fits)

    pub there_is_loaded : (memory : Memory) (bits : Bits) → IsValue (s.before.value_type v) bits
        → bytes_in memory (slot_range s world v) ≡ value_bytes (bytes_of (s.before.value_type v)) bits
        → low_bits_at (s.before.value_type v) (value_of_bytes (bytes_in memory (slot_range s world v))) ≡ bits
    there_is_loaded memory bits fits there =
        ap (λ (bytes : List ℕ). low_bits_at (s.before.value_type v) (value_of_bytes bytes)) there
        ∙ ap (λ (n : ℕ). n % 2 ^ bits_of (s.before.value_type v)) (spelled_back bits fits)
        ∙ mod-eq_of_lt fits

  -- two slots have no byte in common, so what is written to the one leaves the other
  pub other_stays : (v w : ℕ) → IsSlotOf s v → IsSlotOf s w → (s.slot_of v ≡ s.slot_of w → ⊥) → (memory : Memory) (bytes : List ℕ)
      → bytes_in (written memory (slot_range s world v) bytes) (slot_range s world w) ≡ bytes_in memory (slot_range s world w)
  other_stays v w has other differ memory bytes =
      same_bytes (written memory (slot_range s world v) bytes) memory (slot_range s world w) (λ k inside.
      written_leaves memory (slot_range s world v) bytes (address_in (slot_range s world w) k)
      (not_true (lies_in (slot_range s world v) (address_in (slot_range s world w) k)) (λ lies.
      let at = lies_at (slot_range s world v) (address_in (slot_range s world w) k) (slot_fits v has) lies in
      places.apart (s.slot_of v) (s.slot_of w) has.slot other.slot at.0 k has.there other.there differ
      (in_size v has at.0 at.1) (in_size w other k inside)
      (sym at.2 ∙ address_is (slot_range s world w) k (slot_fits w other) inside))))
