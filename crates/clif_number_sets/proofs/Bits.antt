-- One word of 64 bits: reading, setting, clearing and joining its bits.
use Rattle.std.proofs.Common.{◌≡◌, ◌≢◌, ◌⊎◌, ℕ, ◌+◌, ◌/◌, ◌%◌, ◌*◌, ◌^◌, ◌<◌, ◌≤◌, max, Bool, true, false, ◌||◌, eqb, sym, ap, ◌∙◌, arith, inl, inr, w64, eq-eqb, ne_eqb}
use native.Mathlib.Nat.{pow-suc}
use Prim.Native.Nat.{zero, suc}
use Rattle.std.specs.Prelude.{bit_and, bit_or}
use Rattle.std.specs.Int.{bit_at, bit_not, trailing_zeros}
use Rattle.std.proofs.lemmas.Bool.{cases_eq}
use Rattle.std.proofs.lemmas.Nat.{shr-shr}
use Rattle.std.proofs.lemmas.Nat.Bits.{bit_at_above, bit_at-trailing_zeros, bit_at-zero, bit_at-suc, bit_at_lowest, bit_at-lt, same_from_bits, bit_at_or, bit_at_set_same, bit_at_set_other, bit_at_clear_same, bit_at_clear_other, shr_and_one}
use Rattle.clif_number_sets.specs.Words.{has_bit}

-- zero has no bit
pub none_set : (bit : ℕ) → has_bit 0 bit ≡ false
none_set bit = ap (λ n. eqb n 1) (bit_at-zero bit)

-- the test `word >> bit & 1 == 1`
pub read : (word bit : ℕ) → eqb (bit_and (word / 2 ^ bit) 1) 1 ≡ has_bit word bit
read word bit = ap (λ n. eqb n 1) (shr_and_one word bit)

-- `word | 1 << bit`
pub set_here : (word bit : ℕ) → bit < 64 → has_bit (bit_or word (1 * 2 ^ bit % 2 ^ 64)) bit ≡ true
set_here word bit low = eq-eqb _ 1 (bit_at_set_same w64 word bit low)

pub set_other : (word bit other : ℕ) → bit < 64 → other ≢ bit → has_bit (bit_or word (1 * 2 ^ bit % 2 ^ 64)) other ≡ has_bit word other
set_other word bit other low apart = ap (λ n. eqb n 1) (bit_at_set_other w64 word bit low other apart)

-- `word & !(1 << bit)`
pub clear_here : (word bit : ℕ) → bit < 64 → has_bit (bit_and word (bit_not w64 (1 * 2 ^ bit % 2 ^ 64))) bit ≡ false
clear_here word bit low = ap (λ n. eqb n 1) (bit_at_clear_same w64 word bit low)

pub clear_other : (word bit other : ℕ) → bit < 64 → other < 64 → other ≢ bit
    → has_bit (bit_and word (bit_not w64 (1 * 2 ^ bit % 2 ^ 64))) other ≡ has_bit word other
clear_other word bit other low below apart = ap (λ n. eqb n 1) (bit_at_clear_other w64 word bit low other below apart)

-- `word | other`
pub joined : (word other bit : ℕ) → has_bit (bit_or word other) bit ≡ (has_bit word bit || has_bit other bit)
joined word other bit = ap (λ n. eqb n 1) (bit_at_or word other bit) ∙ by (cases_eq (bit_at word bit) 1) (cases_eq (bit_at other bit) 1)
  where
    a : ℕ
    a = bit_at word bit

    b : ℕ
    b = bit_at other bit

    by : (a ≡ 1) ⊎ (a ≢ 1) → (b ≡ 1) ⊎ (b ≢ 1) → eqb (max a b) 1 ≡ (eqb a 1 || eqb b 1)
    by (inl one) _ = eq-eqb (max a b) 1 (omega arith) ∙ sym (ap (λ (t : Bool). t || eqb b 1) (eq-eqb a 1 one))
    by (inr other_bit) (inl one) = eq-eqb (max a b) 1 (omega arith) ∙ sym (ap (λ (t : Bool). t || eqb b 1) (ne_eqb a 1 other_bit) ∙ eq-eqb b 1 one)
    by (inr other_bit) (inr none) =
        let at_most : (a < 2) × (b < 2) = (bit_at-lt word bit, bit_at-lt other bit) in
        ne_eqb (max a b) 1 (omega (arith, at_most.0, at_most.1, other_bit, none)) ∙ sym (ap (λ (t : Bool). t || eqb b 1) (ne_eqb a 1 other_bit) ∙ ne_eqb b 1 none)

pub or_zero : (word : ℕ) → bit_or word 0 ≡ word
or_zero word = same_from_bits (bit_or word 0) word (λ i. bit_at_or word 0 i ∙ ap (max (bit_at word i)) (bit_at-zero i) ∙ omega arith)

pub zero_or : (word : ℕ) → bit_or 0 word ≡ word
zero_or word = same_from_bits (bit_or 0 word) word (λ i. bit_at_or 0 word i ∙ ap (λ d. max d (bit_at word i)) (bit_at-zero i) ∙ omega arith)

-- a word with a bit has one after a union
pub or_some : (word other : ℕ) → 0 < word → 0 < bit_or word other
or_some word other some = by (cases_eq (bit_or word other) 0)
  where
    by : (bit_or word other ≡ 0) ⊎ (bit_or word other ≢ 0) → 0 < bit_or word other
    by (inl none) =
        let zero : word ≡ 0 = same_from_bits word 0 (λ i. omega (arith, bit_at_or word other i, ap (λ n. bit_at n i) none, bit_at-zero i)) in
        omega arith
    by (inr there) = omega arith

-- words of so many bits that differ do so in one of the bits
differing : (bits a b : ℕ) → a < 2 ^ bits → b < 2 ^ bits → a ≢ b → (i : ℕ) × (i < bits) × (bit_at a i ≢ bit_at b i)
differing zero a b p q apart = absurd (apart (omega arith))
differing (suc bits) a b p q apart =
    by (cases_eq (a % 2) (b % 2)) (λ high. differing bits (a / 2) (b / 2) (omega (arith, pow-suc 2 bits)) (omega (arith, pow-suc 2 bits)) high)
  where
    by : (a % 2 ≡ b % 2) ⊎ (a % 2 ≢ b % 2) → (a / 2 ≢ b / 2 → (i : ℕ) × (i < bits) × (bit_at (a / 2) i ≢ bit_at (b / 2) i))
        → (i : ℕ) × (i < suc bits) × (bit_at a i ≢ bit_at b i)
    by (inl low) rest =
        let found = rest (λ e. apart (omega arith)) in
        (suc found.0, omega (arith, found.1), λ e. found.2 (sym (bit_at-suc a found.0) ∙ e ∙ bit_at-suc b found.0))
    by (inr low) _ = (0, omega arith, λ e. low (sym (bit_at_lowest a) ∙ e ∙ bit_at_lowest b))

-- a union that is another word has a new bit
pub new_bit : (word other union : ℕ) → union ≡ bit_or word other → word ≢ union → word < 2 ^ 64 → union < 2 ^ 64
    → (i : ℕ) × (i < 64) × (has_bit word i ≡ false) × (has_bit union i ≡ true)
new_bit word other union is changed fits union_fits =
    let found = differing 64 word union fits union_fits changed in
    let i : ℕ = found.0 in
    let bit : bit_at union i ≡ max (bit_at word i) (bit_at other i) = ap (λ n. bit_at n i) is ∙ bit_at_or word other i in
    (i, found.1, ne_eqb (bit_at word i) 1 (λ e. found.2 (omega arith)), eq-eqb (bit_at union i) 1 (omega (arith, found.2)))

-- a word that isn't zero has a bit
pub some_bit : (word : ℕ) → 0 < word → word < 2 ^ 64 → (i : ℕ) × (i < 64) × (has_bit word i ≡ true)
some_bit word some fits =
    let found = differing 64 word 0 fits (omega arith) (λ e. absurd (omega arith)) in
    let i : ℕ = found.0 in
    (i, found.1, eq-eqb (bit_at word i) 1 (omega (arith, found.2, bit_at-zero i, bit_at-lt word i)))

-- a word has no bit above its 64
pub none_above : (word bit : ℕ) → word < 2 ^ 64 → 64 ≤ bit → has_bit word bit ≡ false
none_above word bit fits above = ap (λ n. eqb n 1) (bit_at_above word 64 bit fits above)

-- `word >> by`
pub shifted : (word by bit : ℕ) → has_bit (word / 2 ^ by) bit ≡ has_bit word (by + bit)
shifted word by bit = ap (λ n. eqb (n % 2) 1) (shr-shr word by bit)

-- `trailing_zeros` is the place of the lowest bit
pub lowest : (word : ℕ) → 0 < word → word < 2 ^ 64
    → (trailing_zeros w64 word < 64) × (has_bit word (trailing_zeros w64 word) ≡ true) × ((bit : ℕ) → bit < trailing_zeros w64 word → has_bit word bit ≡ false)
lowest word some fits =
    let found = bit_at-trailing_zeros w64 word some fits in
    (found.0, ap (λ n. eqb n 1) found.1, λ bit below. ap (λ n. eqb n 1) (found.2 bit below))
