-- The worlds of the examples: slots of eight bytes lie one after another from 1000 on, and 16 is added to what moves.
use Rattle.std.proofs.Common.{◌≡◌, ◌<◌, ◌≤◌, ◌+◌, ◌*◌, ◌%◌, ◌^◌, ℕ, zero, suc, [], ◌∷◌, refl, sym, ap, subst, ◌∙◌, arith, Some, slice_get, replicate}
use Rattle.std.proofs.Math.Nat.{add-mod_right}
use Rattle.clif_types.specs.StackSlot.{StackSlotShape}
use Rattle.clif_meaning.specs.Bits.{Bits}
use Rattle.clif_meaning.specs.World.{World, PlacesSlots}
use Rattle.clif_meaning.proofs.SampleWorld
use Rattle.clif_moving_examples.specs.Scripts.{word}

-- it passes this, and memory is that of the other world
abbrev pub passing : Bits → World → World
passing bits other = record SampleWorld.sample_world {
  arguments = bits ∷ [];
  memory = other.memory;
  memory_after = other.memory_after;
  holds_bytes = other.holds_bytes;
  keeps_bytes = other.keeps_bytes;
  slot_place = λ slot. 1000 + 8 * slot;
}

-- each slot is a word
record IsWord (count s : ℕ) (slot : StackSlotShape) : Type 0 where
  is : word ≡ slot
  below : s < count

word_at : (count s : ℕ) (slot : StackSlotShape) → slice_get (replicate count word) s ≡ Some slot → IsWord count s slot
word_at zero s slot there = cc
word_at (suc count) zero slot there = record { is = (let e : word ≡ slot = cc in e); below = omega arith }
word_at (suc count) (suc s) slot there =
    let rest = word_at count s slot there in
    record { is = rest.is; below = (let less : s < count = rest.below in omega (arith, less)) }

multiple : (s : ℕ) → (1000 + 8 * s) % 8 ≡ 0
multiple zero = refl
multiple (suc s) =
    let next : 1000 + 8 * suc s ≡ (1000 + 8 * s) + 8 = omega arith in
    ap (λ (n : ℕ). n % 8) next ∙ add-mod_right (1000 + 8 * s) 8 ∙ multiple s

size_is : (slot : StackSlotShape) → word ≡ slot → slot.size ≡ 8
size_is slot is = ap (λ (x : StackSlotShape). x.size) (sym is)

pub slots_placed : (bits : Bits) (other : World) (count : ℕ) → count ≤ 2 → PlacesSlots (passing bits other) (replicate count word)
slots_placed bits other count few = record {
  aligned = λ s slot there. subst (λ (x : StackSlotShape). (1000 + 8 * s) % 2 ^ x.align_shift ≡ 0) (word_at count s slot there).is (multiple s);
  accessible = λ s slot k there below. refl;
  within = λ s slot there. fits s slot (word_at count s slot there).below (size_is slot (word_at count s slot there).is);
  apart = λ s t slot next k l there another differ below under same.
      differ (alike s t k l (size_is slot (word_at count s slot there).is) (size_is next (word_at count t next another).is) below under same);
}
  where
    fits : (s : ℕ) (slot : StackSlotShape) → s < count → slot.size ≡ 8 → (1000 + 8 * s) + slot.size ≤ 2 ^ 64
    fits s slot below size = omega (arith, few, below, size)

    alike : (s t k l : ℕ) {slot_size other_size : ℕ} → slot_size ≡ 8 → other_size ≡ 8 → k < slot_size → l < other_size
        → (1000 + 8 * s) + k ≡ (1000 + 8 * t) + l → s ≡ t
    alike s t k l size another below under same = omega (arith, size, another, below, under, same)
