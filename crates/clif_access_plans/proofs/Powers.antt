-- The greatest power of two that divides a size, and accesses of such powers.
use Rattle.std.proofs.Common.{◌≡◌, ◌+◌, ◌-◌, ◌*◌, ◌/◌, ◌%◌, ◌^◌, ◌<◌, ◌≤◌, ◌⊎◌, inl, inr, ℕ, zero, suc, refl, sym, ◌∙◌, ap, arith, w64}
use Rattle.std.specs.Prelude.{min}
use Rattle.std.specs.Int.{bit_at, trailing_zeros}
use Rattle.std.proofs.Math.Nat.{div-add-mod, min-eq_left, min-eq_right, mul_comm, pow-le-pow_right, zero-mod}
use Rattle.std.proofs.Math.Pow.{mod-mod-pow}
use Rattle.std.proofs.lemmas.Bool.{cases_lt}
use Rattle.std.proofs.lemmas.Nat.{mod-pow-add, pow_pos}
use Rattle.std.proofs.lemmas.Nat.Bits.{bit_at-trailing_zeros}
use Rattle.clif_types.specs.Types.{bits_of}
use Rattle.clif_meaning.specs.ByteOperation.{access_size, greatest_power}
use Rattle.clif_access_plans.specs.Plans.{AccessesAreTheSize, IsGreatestPower, PlansAreExact, type_of_bytes}

-- one bit more
next_bit : (n k : ℕ) → n % 2 ^ suc k ≡ bit_at n k * 2 ^ k + n % 2 ^ k
next_bit n k = ap (λ (m : ℕ). n % 2 ^ m) (one_more k) ∙ mod-pow-add n 1 k
  where
    one_more : (k : ℕ) → suc k ≡ 1 + k
    one_more k = omega arith

-- where no bit below a place is set, the power at the place divides
no_lower : (n k : ℕ) → ((i : ℕ) → i < k → bit_at n i ≡ 0) → n % 2 ^ k ≡ 0
no_lower n zero none = omega arith
no_lower n (suc k) none =
    let rest = no_lower n k (λ i below. none i (omega arith)) in
    let bit = none k (omega arith) in
    next_bit n k ∙ ap (λ (b : ℕ). b * 2 ^ k + n % 2 ^ k) bit ∙ omega (arith, rest)

-- what is a multiple of a power of two is one of each lesser power
coarse : (j k n : ℕ) → j ≤ k → n % 2 ^ k ≡ 0 → n % 2 ^ j ≡ 0
coarse j k n less none =
    let parts : k ≡ (k - j) + j = omega arith in
    sym (mod-mod-pow n (k - j) j) ∙ ap (λ (m : ℕ). n % 2 ^ m % 2 ^ j) (sym parts) ∙ ap (λ (m : ℕ). m % 2 ^ j) none ∙ zero-mod (2 ^ j)

pub greatest : (size : ℕ) → 0 < size → size < 2 ^ 64 → IsGreatestPower size (greatest_power size)
greatest size some small = record {
  exponent = place;
  is = refl;
  divides = no_lower size place found.2;
  greatest = λ other divides. pow-le-pow_right {n = 2} (omega arith) {i = other} {j = place} (no_more other divides (cases_lt place other));
}
  where
    place : ℕ
    place = trailing_zeros w64 size

    found : (place < 64) × (bit_at size place ≡ 1) × ((i : ℕ) → i < place → bit_at size i ≡ 0)
    found = bit_at-trailing_zeros w64 size some small

    no_more : (other : ℕ) → size % 2 ^ other ≡ 0 → (place < other) ⊎ (other ≤ place) → other ≤ place
    no_more other divides (inr less) = less
    no_more other divides (inl above) =
        let none : size % 2 ^ suc place ≡ 0 = coarse (suc place) other size above divides in
        let bits : size % 2 ^ suc place ≡ bit_at size place * 2 ^ place + size % 2 ^ place = next_bit size place in
        let one : bit_at size place * 2 ^ place ≡ 1 * 2 ^ place = ap (λ (b : ℕ). b * 2 ^ place) found.1 in
        let some_power = pow_pos place in
        absurd (omega (arith, none, bits, one, some_power))

-- a power of two, at most 8
access_by : (exponent size : ℕ) → size % 2 ^ exponent ≡ 0
    → (kept : ℕ) × (min (2 ^ exponent) 8 ≡ 2 ^ kept) × (kept ≤ 3) × (size % 2 ^ kept ≡ 0)
access_by exponent size divides = by (cases_lt 3 exponent)
  where
    by : (3 < exponent) ⊎ (exponent ≤ 3) → (kept : ℕ) × (min (2 ^ exponent) 8 ≡ 2 ^ kept) × (kept ≤ 3) × (size % 2 ^ kept ≡ 0)
    by (inr few) = (exponent, min-eq_left (pow-le-pow_right {n = 2} (omega arith) {i = exponent} {j = 3} few), few, divides)
    by (inl many) =
        let above : 2 ^ 3 ≤ 2 ^ exponent = pow-le-pow_right {n = 2} (omega arith) {i = 3} {j = exponent} (omega arith) in
        (3, min-eq_right above, omega arith, coarse 3 exponent size (omega arith) divides)

-- the types of one, two, four and eight bytes
type_is : (exponent : ℕ) → exponent ≤ 3 → bits_of (type_of_bytes (2 ^ exponent)) ≡ 8 * 2 ^ exponent
type_is zero few = refl
type_is (suc zero) few = refl
type_is (suc (suc zero)) few = refl
type_is (suc (suc (suc zero))) few = refl
type_is (suc (suc (suc (suc more)))) few = absurd (omega arith)

-- how often a divisor goes into a number
whole_division : (n m : ℕ) → n % m ≡ 0 → n / m * m ≡ n
whole_division n m none = mul_comm (n / m) m ∙ omega (arith, div-add-mod n m, none)

pub accesses : (size : ℕ) → 0 < size → size < 2 ^ 64 → AccessesAreTheSize size
accesses size some small = by (access_by (trailing_zeros w64 size) size power.divides)
  where
    power : IsGreatestPower size (greatest_power size)
    power = greatest size some small

    by : (kept : ℕ) × (min (2 ^ trailing_zeros w64 size) 8 ≡ 2 ^ kept) × (kept ≤ 3) × (size % 2 ^ kept ≡ 0) → AccessesAreTheSize size
    by (kept, is, few, divides) = record {
      is_access = record {
        bits = ap (λ (n : ℕ). bits_of (type_of_bytes n)) is ∙ type_is kept few ∙ ap (λ (n : ℕ). 8 * n) (sym is);
        exponent = kept;
        is_power = is;
        few = few;
      };
      whole = whole_division size (access_size size) (ap (λ (n : ℕ). size % n) is ∙ divides);
    }

pub plans_are_exact : PlansAreExact
plans_are_exact = record { greatest = greatest; accesses = accesses }
