-- Numbers in instructions, and how they are printed.
-- Source: own, after the crate's documentation of its immediates.
use Rattle.std.specs.Prelude.{ℕ, ℤ, pos, ◌-ℤ◌, ◌*◌, ◌-◌, ◌^◌, ◌/◌, ◌%◌, ◌==◌, nat_lt, nat_le, unsigned_abs, if◌then◌else◌, List, [], ◌∷◌, ◌++◌, codes, false}
use Rattle.std.specs.Int.{cast_unsigned, w64}
use Rattle.std.specs.Fmt.{digits, padded_integral, format_spec, signed_decimal}

-- the number from -half up to half - 1 that is `low` modulo twice `half`
abbrev pub centred : ℕ → ℕ → ℤ
centred half low = if nat_lt low half then pos low else (pos low -ℤ pos (2 * half))

-- what so many low bits of a 64-bit number mean in two's complement; all 64, or more, or none mean
-- the number itself
abbrev pub signed_at : ℕ → ℤ → ℤ
signed_at bits imm =
    if nat_lt 0 bits then (if nat_lt bits 64 then centred (2 ^ (bits - 1)) (cast_unsigned w64 imm % 2 ^ bits) else imm) else imm

-- a number below 2^16 in four hexadecimal digits: what `{:04x}` writes
abbrev pub hex_group : ℕ → List ℕ
hex_group n = padded_integral (format_spec 32 0 4 4 (2 ^ 64 - 1)) false [] (digits 16 false n)

-- groups of four digits, joined by `_`
abbrev pub hex_groups : List ℕ → List ℕ
hex_groups [] = []
hex_groups (g ∷ []) = hex_group g
hex_groups (g ∷ h ∷ gs) = hex_group g ++ codes "_" ++ hex_groups (h ∷ gs)

-- a list without the zeros at its head; its last number stays
abbrev pub significant : List ℕ → List ℕ
significant [] = []
significant (g ∷ []) = g ∷ []
significant (g ∷ h ∷ gs) = if g == 0 then significant (h ∷ gs) else g ∷ h ∷ gs

-- 64 bits as four numbers of 16 bits, the highest first
abbrev pub quarters : ℕ → List ℕ
quarters bits = bits / 2 ^ 48 ∷ bits / 2 ^ 32 % 2 ^ 16 ∷ bits / 2 ^ 16 % 2 ^ 16 ∷ bits % 2 ^ 16 ∷ []

-- a 64-bit number as it is printed: decimal from -9999 to 9999, else its bits in hexadecimal
abbrev pub imm64_text : ℤ → List ℕ
imm64_text z =
    if nat_le (unsigned_abs z) 9999 then signed_decimal z else codes "0x" ++ hex_groups (significant (quarters (cast_unsigned w64 z)))
