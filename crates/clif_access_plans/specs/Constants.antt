-- The constant of a fill: a number of 64 bits whose low bits are the byte, again and again. Own.
use Rattle.std.specs.Prelude.{◌≡◌, ℕ, ℤ}
use Rattle.clif_types.specs.Types.{bits_of, bytes_of}
use Rattle.clif_types.specs.declared.types.«Type».{«Type»}
use Rattle.clif_instructions.specs.Immediates.{signed_at}
use Rattle.clif_meaning.specs.Bits.{wrapped}
use Rattle.clif_byte_laws.specs.Pieces.{repeated_byte}

-- At the type the constant is the byte in each place, and above it its sign is repeated.
pub record RepeatsByte (ty : «Type») (byte : ℕ) (constant : ℤ) : Type 0 where
  pub repeats : wrapped (bits_of ty) constant ≡ repeated_byte (bytes_of ty) byte
  pub signed : signed_at (bits_of ty) constant ≡ constant
