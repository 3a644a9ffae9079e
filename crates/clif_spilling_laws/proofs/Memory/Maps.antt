-- The collector by maps moves what lies in each slot that an exact map names, once.
use Rattle.std.proofs.Common.{◌≡◌, ◌⊎◌, ◌<◌, ◌+◌, inl, inr, ℕ, List, [], ◌∷◌, map, refl, sym, ap, subst, ◌∙◌, arith}
use Rattle.std.specs.Prelude.{Contains}
use Rattle.std.specs.List.Sorted.{IsStrictlyIncreasing}
use Rattle.clif_types.specs.Types.{bytes_of}
use Rattle.clif_types.specs.declared.types.«Type».{«Type»}
use Rattle.clif_meaning.specs.Bits.{Bits, value_bytes, value_of_bytes}
use Rattle.clif_meaning.specs.FunctionMachine.{FunctionRun, entries_moved, entry_moved, entry_range}
use Rattle.clif_meaning.specs.Memory.{Memory, Range, bytes_in, written}
use Rattle.clif_meaning.specs.World.{World, PlacesSlots}
use Rattle.clif_spilling_laws.specs.Accesses.{stored}
use Rattle.clif_spilling_laws.specs.Live.{IsSlotOf}
use Rattle.clif_spilling_laws.specs.Rewriting.{entry_of}
use Rattle.clif_spilling_laws.specs.Runs.{after_run, slot_range}
use Rattle.clif_spilling_laws.specs.Spilling.{Spilling}
use Rattle.clif_spilling_laws.proofs.Basics.Lists.{contains_cases, contains_first, contains_more, contains_none, first_is_below, rises_on}
use Rattle.clif_spilling_laws.proofs.Memory.Slots.{other_stays, stored_is_there}

module _ (s : Spilling) (world : World) (places : PlacesSlots world s.after.slots) (moved : «Type» → Bits → Bits) where
  abbrev run : FunctionRun
  run = after_run s world

  abbrev held : Memory → ℕ → List ℕ
  held memory v = bytes_in memory (slot_range s world v)

  -- what moving makes of the bytes in a slot
  abbrev moved_bits : Memory → ℕ → Bits
  moved_bits memory v = moved (s.before.value_type v) (value_of_bytes (held memory v))

  pub range_is : (v : ℕ) → entry_range run (entry_of s v) ≡ slot_range s world v
  range_is v = λ i. record { width = world.pointer_width; start = plus_zero (world.slot_place (s.slot_of v)) i; size = bytes_of (s.before.value_type v) }
    where
      plus_zero : (n : ℕ) → n + 0 ≡ n
      plus_zero n = omega arith

  moved_one : (v : ℕ) (memory : Memory) → entry_moved run moved (entry_of s v) memory ≡ stored s world memory v (moved_bits memory v)
  moved_one v memory =
      ap (λ (r : Range). written memory r
      (value_bytes (bytes_of (s.before.value_type v)) (moved (s.before.value_type v) (value_of_bytes (bytes_in memory r))))) (range_is v)

  -- entries for other slots leave a slot
  others_leave : (vs : List ℕ) (w : ℕ) (memory : Memory) → IsSlotOf s w
      → ((v : ℕ) → Contains vs v → IsSlotOf s v × (s.slot_of v ≡ s.slot_of w → ⊥))
      → held (entries_moved run moved (map (entry_of s) vs) memory) w ≡ held memory w
  others_leave [] w memory has each = refl
  others_leave (v ∷ vs) w memory has each =
      others_leave vs w (entry_moved run moved (entry_of s v) memory) has (λ u h. each u (contains_more v u vs h))
      ∙ ap (λ (m : Memory). held m w) (moved_one v memory)
      ∙ (let first = each v (contains_first v vs) in
      other_stays s world places v w first.0 has first.1 memory (value_bytes (bytes_of (s.before.value_type v)) (moved_bits memory v)))

  -- each slot that is named once is moved once
  pub each_moved : (vs : List ℕ) (w : ℕ) (memory : Memory) → IsStrictlyIncreasing vs → ((v : ℕ) → Contains vs v → IsSlotOf s v)
      → ((v u : ℕ) → Contains vs v → Contains vs u → s.slot_of v ≡ s.slot_of u → v ≡ u) → Contains vs w
      → held (entries_moved run moved (map (entry_of s) vs) memory) w ≡ value_bytes (bytes_of (s.before.value_type w)) (moved_bits memory w)
  each_moved [] w memory rising have apart h = absurd (contains_none w h)
  each_moved (v ∷ vs) w memory rising have apart h =
      by (contains_cases v w vs h)
      (each_moved vs w (entry_moved run moved (entry_of s v) memory) (rises_on v vs rising) (λ u g. have u (contains_more v u vs g))
      (λ u t g f. apart u t (contains_more v u vs g) (contains_more v t vs f)))
    where
      below : (u : ℕ) → Contains vs u → v < u
      below u g = first_is_below v u vs rising g

      first_differs : (u : ℕ) → Contains vs u → (s.slot_of v ≡ s.slot_of u → ⊥)
      first_differs u g same =
          let one : v ≡ u = apart v u (contains_first v vs) (contains_more v u vs g) same in
          absurd (omega (arith, one, below u g))

      first : held (entries_moved run moved (map (entry_of s) vs) (entry_moved run moved (entry_of s v) memory)) v
          ≡ value_bytes (bytes_of (s.before.value_type v)) (moved_bits memory v)
      first =
          others_leave vs v (entry_moved run moved (entry_of s v) memory) (have v (contains_first v vs))
          (λ u g. (have u (contains_more v u vs g), λ same. first_differs u g (sym same)))
          ∙ ap (λ (m : Memory). held m v) (moved_one v memory)
          ∙ stored_is_there s world places v (have v (contains_first v vs)) memory (moved_bits memory v)

      by : (v ≡ w) ⊎ Contains vs w
          → (Contains vs w → held (entries_moved run moved (map (entry_of s) vs) (entry_moved run moved (entry_of s v) memory)) w
          ≡ value_bytes (bytes_of (s.before.value_type w)) (moved_bits (entry_moved run moved (entry_of s v) memory) w))
          → held (entries_moved run moved (map (entry_of s) vs) (entry_moved run moved (entry_of s v) memory)) w
          ≡ value_bytes (bytes_of (s.before.value_type w)) (moved_bits memory w)
      by (inl same) later =
          subst (λ (u : ℕ). held (entries_moved run moved (map (entry_of s) vs) (entry_moved run moved (entry_of s v) memory)) u
          ≡ value_bytes (bytes_of (s.before.value_type u)) (moved_bits memory u)) same first
      by (inr more) later =
          later more
          ∙ ap (λ (bytes : List ℕ). value_bytes (bytes_of (s.before.value_type w)) (moved (s.before.value_type w) (value_of_bytes bytes)))
          (ap (λ (m : Memory). held m w) (moved_one v memory)
          ∙ other_stays s world places v w (have v (contains_first v vs)) (have w (contains_more v w vs more)) (first_differs w more) memory
          (value_bytes (bytes_of (s.before.value_type v)) (moved_bits memory v)))
