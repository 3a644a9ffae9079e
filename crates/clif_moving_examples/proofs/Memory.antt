-- Memory as it is shown: neither what is stored in hidden bytes nor what a call leaves of them is seen.
use Rattle.std.proofs.Common.{◌≡◌, ◌⊎◌, inl, inr, ◌<◌, ◌≤◌, ◌+◌, ◌-◌, ◌%◌, ◌^◌, ◌&&◌, ◌||◌, ℕ, Bool, true, false, List, refl, sym, ◌∙◌, ap, arith}
use Rattle.std.proofs.Math.Nat.{mod-eq_of_lt, add-mod_right}
use Rattle.std.proofs.Math.Path.{fun_ext}
use Rattle.std.proofs.lemmas.Bool.{and_parts, cases_lt, le-leb, lt-ltb, ltb-true}
use Rattle.std.specs.Prelude.{nat_le, nat_lt}
use Rattle.clif_meaning.specs.Memory.{Memory, Range, index_in, lies_in, written}
use Rattle.clif_meaning.specs.Store.{memory_beside, shown_memory}
use Rattle.clif_meaning.proofs.Ranges.{written_leaves}

-- what is shown depends on bytes that aren't hidden
shown_alike : (hidden : ℕ → Bool) (left right : Memory) → ((address : ℕ) → hidden address ≡ false → left address ≡ right address)
    → shown_memory hidden left ≡ shown_memory hidden right
shown_alike hidden left right alike = fun_ext (λ address. by address (hidden address) refl)
  where
    by : (address : ℕ) (c : Bool) → hidden address ≡ c → shown_memory hidden left address ≡ shown_memory hidden right address
    by address true is = rw is refl
    by address false is = rw is (alike address is)

beside_outside : (hidden : ℕ → Bool) (kept after : Memory) (address : ℕ) → hidden address ≡ false → memory_beside hidden kept after address ≡ after address
beside_outside hidden kept after address is = rw is refl

pub called_alike : (hidden : ℕ → Bool) (left right after : Memory)
    → shown_memory hidden (memory_beside hidden left after) ≡ shown_memory hidden (memory_beside hidden right after)
called_alike hidden left right after =
    shown_alike hidden (memory_beside hidden left after) (memory_beside hidden right after)
    (λ address is. beside_outside hidden left after address is ∙ sym (beside_outside hidden right after address is))

-- the bytes of a range that doesn't wrap are those from its start to its end
outside : (range : Range) (address : ℕ) → range.start < 2 ^ range.width
    → (nat_le range.start address && nat_lt address (range.start + range.size)) ≡ false → range.size ≤ 2 ^ range.width - range.start
    → lies_in range address ≡ false
outside range address starts apart short = by (lies_in range address) refl
  where
    no_way : (c : Bool) → c ≡ false → c ≡ true → ⊥
    no_way true is other = cc
    no_way false is other = cc

    inside : address < 2 ^ range.width → index_in range address < range.size → (address < range.start) ⊎ (range.start ≤ address) → ⊥
    inside below index (inl early) =
        let straight : index_in range address ≡ address + 2 ^ range.width - range.start = mod-eq_of_lt (omega (arith, early, below)) in
        omega (arith, straight, index, short, starts)
    inside below index (inr late) =
        let round : address + 2 ^ range.width - range.start ≡ (address - range.start) + 2 ^ range.width = omega (arith, late) in
        let is : index_in range address ≡ address - range.start =
        ap (λ (n : ℕ). n % 2 ^ range.width) round ∙ add-mod_right (address - range.start) (2 ^ range.width) ∙ mod-eq_of_lt (omega (arith, below)) in
        let first : nat_le range.start address ≡ true = le-leb range.start address late in
        let last : nat_lt address (range.start + range.size) ≡ true = lt-ltb address (range.start + range.size) (omega (arith, late, is, index)) in
        no_way (nat_le range.start address && nat_lt address (range.start + range.size)) apart (rw (first, last) refl)

    by : (c : Bool) → lies_in range address ≡ c → lies_in range address ≡ false
    by false is = is
    by true is =
        let parts = and_parts (nat_lt address (2 ^ range.width)) (nat_lt (index_in range address) range.size) is in
        absurd (inside (ltb-true address (2 ^ range.width) parts.0) (ltb-true (index_in range address) range.size parts.1) (cases_lt address range.start))

-- a store in a slot that is hidden isn't seen
pub stored_alike : (hidden : ℕ → Bool) (memory : Memory) (range : Range) (bytes : List ℕ) → range.start < 2 ^ range.width
    → range.size ≤ 2 ^ range.width - range.start
    → ((address : ℕ) → hidden address ≡ false → (nat_le range.start address && nat_lt address (range.start + range.size)) ≡ false)
    → shown_memory hidden memory ≡ shown_memory hidden (written memory range bytes)
stored_alike hidden memory range bytes starts short there =
    shown_alike hidden memory (written memory range bytes)
    (λ address is. sym (written_leaves memory range bytes address (outside range address starts (there address is) short)))

-- the slot of the examples, and the end of a list of slots
abbrev pub slot : Range
slot = record { width = 64; start = 1000; size = 8 }

pub or_false : (c : Bool) → (c || false) ≡ false → c ≡ false
or_false true is = is
or_false false is = refl
