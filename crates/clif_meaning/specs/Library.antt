-- What functions of the C library take and give, which bytes they touch, and what they do with them. After `memcpy`,
-- `memmove`, `memset` and `memcmp` of the C standard's <string.h>.
use Rattle.std.specs.Prelude.{ℕ, zero, suc, ◌%◌, ◌^◌, ◌&&◌, not, Bool, true, List, [], ◌∷◌, unwrap_or}
use Rattle.clif_tables.specs.Callees.{types_of}
use Rattle.clif_types.specs.Signature.{SignatureShape}
use Rattle.clif_types.specs.Types.{int_of}
use Rattle.clif_types.specs.declared.libcall.LibCall.{LibCall}
use Rattle.clif_types.specs.declared.libcall.LibCall.TheVariants.{Memcpy, Memmove, Memset, Memcmp}
use Rattle.clif_types.specs.declared.types.LaneType.TheVariants as lane
use Rattle.clif_types.specs.declared.types.«Type».{«Type»}
use Rattle.clif_types.specs.declared.types.«Type».TheVariants as type
use Rattle.clif_meaning.specs.Bits.{Bits}
use Rattle.clif_meaning.specs.Memory.{Memory, Range, address_in, lies_in, bytes_in, copied, filled}
use Rattle.clif_meaning.specs.SameType.{same_types}
use Rattle.clif_meaning.specs.World.{World}

-- the integer type of a pointer of so many bits; the invalid type where no integer has as many
abbrev pub pointer_of : (width : ℕ) → «Type»
pointer_of width = unwrap_or (int_of width) type.Invalid

-- what each function takes and gives, with pointers of this type
abbrev pub library_parameters : «Type» → LibCall → List «Type»
library_parameters pointer Memcpy = pointer ∷ pointer ∷ pointer ∷ []
library_parameters pointer Memmove = pointer ∷ pointer ∷ pointer ∷ []
library_parameters pointer Memset = pointer ∷ type.Lane lane.I32 ∷ pointer ∷ []
library_parameters pointer Memcmp = pointer ∷ pointer ∷ pointer ∷ []

abbrev pub library_returns : «Type» → LibCall → List «Type»
library_returns pointer Memcpy = pointer ∷ []
library_returns pointer Memmove = pointer ∷ []
library_returns pointer Memset = pointer ∷ []
library_returns pointer Memcmp = type.Lane lane.I32 ∷ []

-- the types of a signature are the function's
abbrev pub has_library_types : «Type» → LibCall → SignatureShape → Bool
has_library_types pointer callee signature =
    same_types (types_of signature.params) (library_parameters pointer callee)
    && same_types (types_of signature.returns) (library_returns pointer callee)

-- so many bytes from an address on, which counts modulo its width
abbrev pub bytes_at : (width : ℕ) → (address size : Bits) → Range
bytes_at width address size = record { width = width; start = address % 2 ^ width; size = size }

-- The table of functions, by their three arguments: two addresses and how many bytes there are from each, or an address, a
-- number whose low byte is meant, and how many bytes. The ranges that a function touches.
abbrev pub library_ranges : (width : ℕ) → LibCall → (first second size : Bits) → List Range
library_ranges width Memcpy first second size = bytes_at width first size ∷ bytes_at width second size ∷ []
library_ranges width Memmove first second size = bytes_at width first size ∷ bytes_at width second size ∷ []
library_ranges width Memset first second size = bytes_at width first size ∷ []
library_ranges width Memcmp first second size = bytes_at width first size ∷ bytes_at width second size ∷ []

-- no byte of the one range, among the first so many, is one of the other
abbrev pub are_apart : (left right : Range) → ℕ → Bool
are_apart left right zero = true
are_apart left right (suc count) = not (lies_in right (address_in left count)) && are_apart left right count

-- what may overlap, and what may not
abbrev pub library_apart : (width : ℕ) → LibCall → (first second size : Bits) → Bool
library_apart width Memcpy first second size = are_apart (bytes_at width first size) (bytes_at width second size) size
library_apart width Memmove first second size = true
library_apart width Memset first second size = true
library_apart width Memcmp first second size = true

-- what it answers: the first pointer, or the world's number with the sign of the order of the bytes
abbrev pub library_answer : World → LibCall → (first second size : Bits) → Memory → Bits
library_answer world Memcpy first second size memory = first
library_answer world Memmove first second size memory = first
library_answer world Memset first second size memory = first
library_answer world Memcmp first second size memory =
    world.memcmp_number (bytes_in memory (bytes_at world.pointer_width first size)) (bytes_in memory (bytes_at world.pointer_width second size))

-- memory after it
abbrev pub library_memory : (width : ℕ) → LibCall → (first second size : Bits) → Memory → Memory
library_memory width Memcpy first second size memory = copied memory (bytes_at width first size) second
library_memory width Memmove first second size memory = copied memory (bytes_at width first size) second
library_memory width Memset first second size memory = filled memory (bytes_at width first size) (second % 256)
library_memory width Memcmp first second size memory = memory
