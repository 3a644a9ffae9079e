-- How numbers, bytes, types, widths of pointers, reasons for traps, offsets and flags are spelled. Source: own; docs/SCRIPTS.md describes the same format.
use Rattle.std.specs.Prelude.{FitsSigned, ℤ, ◌+◌, ◌%◌, ◌^◌, ◌<◌, ◌≤◌, ◌==◌, not, filter, ◌≡◌, ℕ, ◌⊎◌, ◌++◌, Bool, List, [], ◌∷◌, None, codes, length, if◌then◌else◌}
use Rattle.std.specs.Int.{cast_signed, w32, w64}
use Rattle.std.specs.Str.Parse.{IsNumeral, digits_value, signed_digits_value, without_leading_sign}
use Rattle.clif_types.specs.Types.{IsType}
use Rattle.clif_types.specs.Texts.{bytes_text, trap_code_text, type_text}
use Rattle.clif_types.specs.MemFlags.{MemFlagsShape}
use Rattle.clif_types.specs.declared.types.«Type».{«Type»}
use Rattle.clif_types.specs.declared.target.PointerWidth.{PointerWidth}
use Rattle.clif_types.specs.declared.target.PointerWidth.TheVariants as width
use Rattle.clif_types.specs.declared.trapcode.TrapCode.{TrapCode}
use Rattle.clif_types.specs.declared.trapcode.TrapCode.TheVariants as trap

-- decimal digits that write the number
pub record IsDecimal (digits : List ℕ) (number : ℕ) : Type 0 where
  pub numeral : IsNumeral 10 digits
  pub value : digits_value 10 digits ≡ number

-- the digits of a number, without the `_` among them
abbrev pub figures : List ℕ → List ℕ
figures digits = filter (λ c. not (c == 95)) digits

-- a number without a sign: in base 16 behind `0x`, else in base 10
abbrev pub IsMagnitude : List ℕ → ℕ → Type 0
IsMagnitude word number = ((digits : List ℕ) × (word ≡ codes "0x" ++ digits) × IsNumeral 16 (figures digits) × (digits_value 16 (figures digits) ≡ number))
    ⊎ (IsNumeral 10 (figures word) × (digits_value 10 (figures word) ≡ number))

-- a number of 64 bits: the bits, read as signed, or `-` and a number up to 2^63, in two's complement
abbrev pub IsNumber : List ℕ → ℤ → Type 0
IsNumber word number = ((bits : ℕ) × (bits < 2 ^ 64) × IsMagnitude word bits × (number ≡ cast_signed w64 bits))
    ⊎ ((digits : List ℕ) × (magnitude bits : ℕ) × (bits < 2 ^ 64) × (word ≡ codes "-" ++ digits) × IsMagnitude digits magnitude × (magnitude ≤ 2 ^ 63) × ((bits + magnitude) % 2 ^ 64 ≡ 0) × (number ≡ cast_signed w64 bits))

-- these bytes, as they are printed, of which there is one at least
pub record IsBytes (word bytes : List ℕ) : Type 0 where
  pub some : 0 < length bytes
  pub text : word ≡ bytes_text bytes

-- a type of the IR, as it is printed
pub record IsTypeWord (word : List ℕ) (ty : «Type») : Type 0 where
  pub text : word ≡ type_text ty
  pub valid : IsType ty

-- the number of bits
abbrev pub pointer_text : PointerWidth → List ℕ
pointer_text width.U16 = codes "16"
pointer_text width.U32 = codes "32"
pointer_text width.U64 = codes "64"

-- a reason for a trap, as it is printed; the number of a program's own reason in decimal digits
abbrev pub IsTrapCode : List ℕ → TrapCode → Type 0
IsTrapCode word (trap.User code) = (digits : List ℕ) × (word ≡ codes "user" ++ digits) × IsDecimal digits code
IsTrapCode word code = word ≡ trap_code_text code

-- a distance from an address, within 32 bits: decimal digits, and `+` or `-` before them or neither
pub record IsOffset (word : List ℕ) (offset : ℤ) : Type 0 where
  pub numeral : IsNumeral 10 (without_leading_sign word)
  pub value : signed_digits_value 10 word ≡ offset
  pub fits : FitsSigned w32 offset

-- the word of a flag that is set
abbrev pub flag_word : Bool → List ℕ → List (List ℕ)
flag_word set word = if set then word ∷ [] else []

-- the flags of a load or a store that are set, in any order, of which none is a region
pub record AreFlags (words : List (List ℕ)) (flags : MemFlagsShape) : Type 0 where
  pub order : (words ≡ flag_word flags.notrap (codes "notrap") ++ flag_word flags.aligned (codes "aligned"))
      ⊎ (words ≡ flag_word flags.aligned (codes "aligned") ++ flag_word flags.notrap (codes "notrap"))
  pub region : flags.alias_region ≡ None

-- whether it is said of bytes that they don't overlap
abbrev pub overlap_word : (apart : Bool) → List ℕ
overlap_word apart = if apart then codes "nonoverlap" else codes "overlap"
