-- The bits of values. A value of a type is as many bits as the type has. It stands here as the number, below 2 to
-- the width, whose binary digits these bits are; that no list of bits is lost or made is a law. Zero is 0 at every
-- type: no bit is set. The lanes of a vector stand one above the other, lane 0 lowest. Own; the widths are
-- Cranelift's.
use Rattle.std.specs.Prelude.{◌≡◌, ℕ, zero, suc, ◌+◌, ◌-◌, ◌*◌, ◌/◌, ◌%◌, ◌^◌, ◌<◌, ◌==◌, if◌then◌else◌, Bool, false, List, [], ◌∷◌, length, replicate, ℤ, pos, negsuc}
use Rattle.std.specs.List.{AllByRecursion}
use Rattle.clif_types.specs.declared.types.«Type».{«Type»}
use Rattle.clif_types.specs.Types.{bits_of}

-- bits, as the number that they spell
abbrev pub Bits : Type 0
Bits = ℕ

-- there are no more bits than this
abbrev pub HasWidth : ℕ → Bits → Type 0
HasWidth width bits = bits < 2 ^ width

-- the bits are a value of the type
abbrev pub IsValue : «Type» → Bits → Type 0
IsValue ty bits = HasWidth (bits_of ty) bits

-- as many values as types, each of its own
abbrev pub AreValues : List «Type» → List Bits → Type 0
AreValues [] [] = Unit {0}
AreValues (ty ∷ types) (bits ∷ values) = IsValue ty bits × AreValues types values
AreValues [] (bits ∷ values) = ⊥
AreValues (ty ∷ types) [] = ⊥

-- the number that a list of bits spells, lowest bit first
abbrev pub number_of_bits : List Bool → Bits
number_of_bits [] = 0
number_of_bits (bit ∷ bits) = (if bit then 1 else 0) + 2 * number_of_bits bits

-- the lowest bits of a number, lowest first
abbrev pub low_bits : ℕ → Bits → List Bool
low_bits zero bits = []
low_bits (suc width) bits = (bits % 2 == 1) ∷ low_bits width (bits / 2)

-- the lowest bits of a signed number in two's complement, as many as the width says: a wide number is cut, a narrow
-- one has its sign repeated
abbrev pub wrapped : ℕ → ℤ → Bits
wrapped width (pos n) = n % 2 ^ width
wrapped width (negsuc n) = 2 ^ width - 1 - n % 2 ^ width

-- each number is a byte
abbrev pub AreBytes : List ℕ → Type 0
AreBytes = AllByRecursion (λ byte. byte < 256)

-- the bytes of a value, lowest first: memory is little-endian
abbrev pub value_bytes : ℕ → Bits → List ℕ
value_bytes zero bits = []
value_bytes (suc count) bits = (bits % 256) ∷ value_bytes count (bits / 256)

-- the value that bytes spell, lowest first
abbrev pub value_of_bytes : List ℕ → Bits
value_of_bytes [] = 0
value_of_bytes (byte ∷ bytes) = byte + 256 * value_of_bytes bytes

-- The numbers below 2 to the width are the lists of as many bits: each such number is spelled by its low bits, each
-- list is the low bits of what it spells, and neither leaves its range.
pub record BitsAreLists : Type 0 where
  pub spelled : (width : ℕ) (bits : Bits) → HasWidth width bits → number_of_bits (low_bits width bits) ≡ bits
  pub listed : (bits : List Bool) → low_bits (length bits) (number_of_bits bits) ≡ bits
  pub as_many : (width : ℕ) (bits : Bits) → length (low_bits width bits) ≡ width
  pub in_range : (bits : List Bool) → HasWidth (length bits) (number_of_bits bits)
  -- zero has no bit
  pub zero_has_none : (width : ℕ) → low_bits width 0 ≡ replicate width false

-- The values of eight bits for each byte are the lists of as many bytes.
pub record ValuesAreBytes : Type 0 where
  pub spelled : (count : ℕ) (bits : Bits) → HasWidth (8 * count) bits → value_of_bytes (value_bytes count bits) ≡ bits
  pub listed : (bytes : List ℕ) → AreBytes bytes → value_bytes (length bytes) (value_of_bytes bytes) ≡ bytes
  pub as_many : (count : ℕ) (bits : Bits) → length (value_bytes count bits) ≡ count
  pub are_bytes : (count : ℕ) (bits : Bits) → AreBytes (value_bytes count bits)
  pub in_range : (bytes : List ℕ) → AreBytes bytes → HasWidth (8 * length bytes) (value_of_bytes bytes)
