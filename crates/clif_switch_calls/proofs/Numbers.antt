-- The numbers that the plain calls of a switch make.
use Rattle.std.proofs.Common.{◌≡◌, ◌<◌, ◌≤◌, ◌+◌, ◌-◌, ◌*◌, ℕ, Bool, true, false, sym, ◌∙◌, ap, ap₂, arith, inl, inr}
use Rattle.std.specs.Prelude.{◌^◌, ◌%◌, ◌/◌, pos, negsuc, if◌then◌else◌, nat_lt, nat_le}
use Rattle.std.proofs.Math.Nat.{add-mod_right, mod-eq_of_lt, mod-add-div}
use Rattle.std.proofs.lemmas.Bool.{cases_lt}
use Rattle.std.proofs.lemmas.Bool.Decides.{nat_tests}
use Rattle.clif_meaning.specs.Bits.{wrapped}
use Rattle.clif_meaning.specs.Outcome.{sign_extended}
use Rattle.clif_switch_calls.specs.SwitchCalls.{negated_64, signed_64}

-- SIGNS -------------------------------------------------------------------------------------------------------------------

-- below 2^63 there is no sign
pub small_signed : (n : ℕ) → n < 2 ^ 63 → signed_64 n ≡ pos n
small_signed n small =
    let whole : n % 18446744073709551616 ≡ n = mod-eq_of_lt (omega (arith, small)) in
    let below : nat_lt n (2 ^ 63) ≡ true = grind (arith, nat_tests) in
    ap (λ (m : ℕ). if nat_lt m (2 ^ 63) then pos m else negsuc (2 ^ 64 - 1 - m)) whole ∙ ap (λ (c : Bool). if c then pos n else negsuc (2 ^ 64 - 1 - n)) below

-- from 2^63 on there is one
pub great_signed : (n : ℕ) → 2 ^ 63 ≤ n → n < 2 ^ 64 → signed_64 n ≡ negsuc (2 ^ 64 - 1 - n)
great_signed n great small =
    let whole : n % 18446744073709551616 ≡ n = mod-eq_of_lt (omega (arith, small)) in
    let above : nat_lt n (2 ^ 63) ≡ false = grind (arith, nat_tests) in
    ap (λ (m : ℕ). if nat_lt m (2 ^ 63) then pos m else negsuc (2 ^ 64 - 1 - m)) whole ∙ ap (λ (c : Bool). if c then pos n else negsuc (2 ^ 64 - 1 - n)) above

-- what has its sign in 64 bits is itself there
pub wrapped_64 : (n : ℕ) → n < 2 ^ 64 → wrapped 64 (signed_64 n) ≡ n
wrapped_64 n small =
    elim (cases_lt n 9223372036854775808) [
      | inl under ↦ ap (wrapped 64) (small_signed n under) ∙ mod-eq_of_lt (omega (arith, small))
      | inr over ↦
          let inner : (18446744073709551615 - n) % 18446744073709551616 ≡ 18446744073709551615 - n = mod-eq_of_lt (omega (arith, small)) in
          ap (wrapped 64) (great_signed n over small) ∙ ap (λ (m : ℕ). 18446744073709551615 - m) inner ∙ omega (arith, small)
    ]

-- and in each width that it fits, where it has none
pub wrapped_small : (width n : ℕ) → n < 2 ^ 63 → n < 2 ^ width → wrapped width (signed_64 n) ≡ n
wrapped_small width n small fits = ap (wrapped width) (small_signed n small) ∙ mod-eq_of_lt fits

-- the low half
pub wrapped_low : (n : ℕ) → wrapped 64 (signed_64 n) ≡ n % 2 ^ 64
wrapped_low n =
    let below : n % 18446744073709551616 < 18446744073709551616 = below_modulus n in
    let again : n % 18446744073709551616 % 18446744073709551616 ≡ n % 18446744073709551616 = mod-eq_of_lt below in
    ap (λ (m : ℕ). wrapped 64 (if nat_lt m (2 ^ 63) then pos m else negsuc (2 ^ 64 - 1 - m))) (sym again) ∙ wrapped_64 (n % 18446744073709551616) below
  where
    below_modulus : (n : ℕ) → n % 18446744073709551616 < 18446744073709551616
    below_modulus n = omega arith

-- HALVES ------------------------------------------------------------------------------------------------------------------

-- a number of 128 bits is made of its two halves
pub of_halves : (n : ℕ) → n < 2 ^ 128 → (wrapped 64 (signed_64 n) + 2 ^ 64 * wrapped 64 (signed_64 (n / 2 ^ 64))) % 2 ^ 128 ≡ n
of_halves n small =
    let upper : n / 18446744073709551616 < 18446744073709551616 = omega (arith, small) in
    ap₂ (λ (low high : ℕ). (low + 2 ^ 64 * high) % 2 ^ 128) (wrapped_low n) (wrapped_64 (n / 18446744073709551616) upper)
    ∙ ap (λ (m : ℕ). m % 2 ^ 128) (mod-add-div n 18446744073709551616) ∙ mod-eq_of_lt small

-- the sign of a number without one is repeated
pub extended : (n : ℕ) → n < 2 ^ 63 → sign_extended 64 128 (wrapped 64 (pos n)) % 2 ^ 128 ≡ n
extended n small =
    let whole : n % 18446744073709551616 ≡ n = mod-eq_of_lt (omega (arith, small)) in
    let none : nat_le (2 ^ 63) n ≡ false = grind (arith, nat_tests) in
    ap (λ (x : ℕ). sign_extended 64 128 x % 2 ^ 128) whole ∙ ap (λ (c : Bool). (if c then 2 ^ 128 - (2 ^ 64 - n) else n) % 2 ^ 128) none ∙ mod-eq_of_lt (omega (arith, small))

-- NEGATED -----------------------------------------------------------------------------------------------------------------

-- up to 2^63 a sum with the negated number is one with a number that has a sign
pub small_negated : (n : ℕ) → 0 < n → n ≤ 2 ^ 63 → negated_64 n ≡ negsuc (n - 1)
small_negated n some small =
    let whole : n % 18446744073709551616 ≡ n = mod-eq_of_lt (omega (arith, small)) in
    ap (λ (m : ℕ). signed_64 (2 ^ 64 - m)) whole ∙ great_signed (18446744073709551616 - n) (omega (arith, small)) (omega (arith, some)) ∙ ap negsuc (omega (arith, some, small))

pub great_negated : (n : ℕ) → 2 ^ 63 < n → n < 2 ^ 64 → negated_64 n ≡ pos (2 ^ 64 - n)
great_negated n great small =
    let whole : n % 18446744073709551616 ≡ n = mod-eq_of_lt (omega (arith, small)) in
    ap (λ (m : ℕ). signed_64 (2 ^ 64 - m)) whole ∙ small_signed (18446744073709551616 - n) (omega (arith, great))

-- in each width that it fits
pub wrapped_negated : (width n : ℕ) → 0 < n → n ≤ 2 ^ 63 → n < 2 ^ width → wrapped width (negated_64 n) ≡ 2 ^ width - n
wrapped_negated width n some small fits =
    let inner : (n - 1) % 2 ^ width ≡ n - 1 = mod-eq_of_lt (omega (arith, some, fits)) in
    ap (wrapped width) (small_negated n some small) ∙ ap (λ (m : ℕ). 2 ^ width - 1 - m) inner ∙ omega (arith, some)

pub wrapped_negated_64 : (n : ℕ) → 0 < n → n < 2 ^ 64 → wrapped 64 (negated_64 n) ≡ 2 ^ 64 - n
wrapped_negated_64 n some fits =
    elim (cases_lt 9223372036854775808 n) [
      | inl great ↦ ap (wrapped 64) (great_negated n great fits) ∙ mod-eq_of_lt (omega (arith, some))
      | inr small ↦ wrapped_negated 64 n some small fits
    ]

-- DIFFERENCES -------------------------------------------------------------------------------------------------------------

-- the sum with what makes zero with a number is the difference
pub difference_by_sum : (modulus x n : ℕ) → n ≤ modulus → x + (modulus - n) ≡ x + modulus - n
difference_by_sum modulus x n fits = omega (arith, fits)

pub difference_above : (modulus x n : ℕ) → x < modulus → n ≤ x → (x + modulus - n) % modulus ≡ x - n
difference_above modulus x n fits over =
    let moved : x + modulus - n ≡ (x - n) + modulus = omega (arith, over) in
    ap (λ (m : ℕ). m % modulus) moved ∙ add-mod_right (x - n) modulus ∙ mod-eq_of_lt (omega (arith, fits))

pub difference_below : (modulus x n : ℕ) → x < n → n < modulus → (x + modulus - n) % modulus ≡ x + modulus - n
difference_below modulus x n under fits = mod-eq_of_lt (omega (arith, under, fits))
