-- Bits and bytes as digits of numbers.
use Rattle.std.proofs.Common.{◌≡◌, ◌+◌, ◌*◌, ◌/◌, ◌%◌, ◌^◌, ◌<◌, ◌==◌, ℕ, zero, suc, List, [], ◌∷◌, length, replicate, Bool, true, false, refl, ap, arith, ◌∙◌, if◌then◌else◌}
use Rattle.std.proofs.Math.Nat.{pow-suc}
use Rattle.std.proofs.lemmas.Nat.{pow-add}
use Rattle.clif_meaning.specs.Bits.{HasWidth, number_of_bits, low_bits, value_bytes, value_of_bytes, AreBytes}

two_pow : (k : ℕ) → 2 ^ suc k ≡ 2 * 2 ^ k
two_pow k = omega (arith, pow-suc 2 k)

-- the lowest bit of a number
low_bit : (n : ℕ) → (if n % 2 == 1 then 1 else 0) ≡ n % 2
low_bit n = at (n % 2) (omega arith)
  where
    at : (r : ℕ) → r < 2 → (if r == 1 then 1 else 0) ≡ r
    at zero h = refl
    at (suc zero) h = refl
    at (suc (suc r)) h = absurd (omega arith)

pub spelled : (width bits : ℕ) → HasWidth width bits → number_of_bits (low_bits width bits) ≡ bits
spelled zero bits h = omega arith
spelled (suc width) bits h =
    let double = two_pow width in
    let half : bits / 2 < 2 ^ width = omega arith in
    let rest = spelled width (bits / 2) half in
    let low = low_bit bits in
    omega (arith, rest, low)

pub listed : (bits : List Bool) → low_bits (length bits) (number_of_bits bits) ≡ bits
listed [] = refl
listed (true ∷ bits) =
    let odd : (1 + 2 * number_of_bits bits) % 2 ≡ 1 = omega arith in
    let half : (1 + 2 * number_of_bits bits) / 2 ≡ number_of_bits bits = omega arith in
    rw (odd, half) (ap (λ (rest : List Bool). true ∷ rest) (listed bits))
listed (false ∷ bits) =
    let even : (0 + 2 * number_of_bits bits) % 2 ≡ 0 = omega arith in
    let half : (0 + 2 * number_of_bits bits) / 2 ≡ number_of_bits bits = omega arith in
    rw (even, half) (ap (λ (rest : List Bool). false ∷ rest) (listed bits))

pub as_many : (width bits : ℕ) → length (low_bits width bits) ≡ width
as_many zero bits = refl
as_many (suc width) bits = ap suc (as_many width (bits / 2))

pub in_range : (bits : List Bool) → HasWidth (length bits) (number_of_bits bits)
in_range [] = omega arith
in_range (true ∷ bits) = omega (arith, two_pow (length bits), in_range bits)
in_range (false ∷ bits) = omega (arith, two_pow (length bits), in_range bits)

-- as many bytes are eight times as many bits
byte_pow : (k : ℕ) → 2 ^ (8 * suc k) ≡ 256 * 2 ^ (8 * k)
byte_pow k = ap (λ (n : ℕ). 2 ^ n) (eight k) ∙ pow-add 2 8 (8 * k)
  where
    eight : (k : ℕ) → 8 * suc k ≡ 8 + 8 * k
    eight k = omega arith

pub value_spelled : (count bits : ℕ) → HasWidth (8 * count) bits → value_of_bytes (value_bytes count bits) ≡ bits
value_spelled zero bits h = omega arith
value_spelled (suc count) bits h =
    let wide = byte_pow count in
    let high : bits / 256 < 2 ^ (8 * count) = omega arith in
    let rest = value_spelled count (bits / 256) high in
    omega (arith, rest)

pub value_listed : (bytes : List ℕ) → AreBytes bytes → value_bytes (length bytes) (value_of_bytes bytes) ≡ bytes
value_listed [] h = refl
value_listed (byte ∷ bytes) h =
    let small : byte < 256 = h.0 in
    let low : (byte + 256 * value_of_bytes bytes) % 256 ≡ byte = omega arith in
    let high : (byte + 256 * value_of_bytes bytes) / 256 ≡ value_of_bytes bytes = omega arith in
    rw (low, high) (ap (λ (rest : List ℕ). byte ∷ rest) (value_listed bytes h.1))

pub value_as_many : (count bits : ℕ) → length (value_bytes count bits) ≡ count
value_as_many zero bits = refl
value_as_many (suc count) bits = ap suc (value_as_many count (bits / 256))

pub are_bytes : (count bits : ℕ) → AreBytes (value_bytes count bits)
are_bytes zero bits = tt
are_bytes (suc count) bits = (omega arith, are_bytes count (bits / 256))

pub value_in_range : (bytes : List ℕ) → AreBytes bytes → HasWidth (8 * length bytes) (value_of_bytes bytes)
value_in_range [] h = omega arith
value_in_range (byte ∷ bytes) h =
    let small : byte < 256 = h.0 in
    let rest = value_in_range bytes h.1 in
    let wide = byte_pow (length bytes) in
    omega arith

pub zero_has_none : (width : ℕ) → low_bits width 0 ≡ replicate width false
zero_has_none zero = refl
zero_has_none (suc width) = ap (λ (rest : List Bool). false ∷ rest) (zero_has_none width)
