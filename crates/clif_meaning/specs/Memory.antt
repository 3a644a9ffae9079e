-- Memory, and what copying, filling and comparing bytes mean. Own; the meanings are those of C's `memmove`, `memset`
-- and `memcmp`.
use Rattle.std.specs.Prelude.{ℕ, zero, suc, ◌+◌, ◌-◌, ◌%◌, ◌^◌, nat_lt, ◌&&◌, if◌then◌else◌, Bool, List, [], ◌∷◌, slice_index, ◌≡◌, ◌<◌, ◌≤◌, length, replicate, false}
use Rattle.std.specs.Ordering.{nat_cmp, ordering_then}
use Rattle.std.specs.declared.cmp.Ordering.{Ordering}
use Rattle.std.specs.declared.cmp.Ordering.TheVariants.{Equal}

-- the byte at each address
abbrev pub Memory : Type 0
Memory = ℕ → ℕ

-- bytes that lie one after another. An address is an integer of 16, 32 or 64 bits, and places count modulo that
-- width
pub record Range : Type 0 where
  pub width : ℕ
  pub start : ℕ
  pub size : ℕ

-- the address of a byte of the range, counted from its start
abbrev pub address_in : Range → ℕ → ℕ
address_in range index = (range.start + index) % 2 ^ range.width

-- which byte of the range an address is, where it is one
abbrev pub index_in : Range → ℕ → ℕ
index_in range address = (address + 2 ^ range.width - range.start) % 2 ^ range.width

-- the address is that of a byte of the range
abbrev pub lies_in : Range → ℕ → Bool
lies_in range address = nat_lt address (2 ^ range.width) && nat_lt (index_in range address) range.size

-- the bytes from an address on, as many as told
abbrev pub bytes_from : Memory → ℕ → ℕ → ℕ → List ℕ
bytes_from memory width start zero = []
bytes_from memory width start (suc size) = memory (start % 2 ^ width) ∷ bytes_from memory width (start + 1) size

-- the bytes of a range, in order
abbrev pub bytes_in : Memory → Range → List ℕ
bytes_in memory range = bytes_from memory range.width range.start range.size

-- the range holds these bytes, in order, and all other bytes stay
abbrev pub written : Memory → Range → List ℕ → Memory
written memory range bytes = λ address. if lies_in range address then slice_index bytes (index_in range address) else memory address

-- Copy: the target holds what the source, of the same size, held before, and all other bytes stay.
abbrev pub copied : Memory → Range → ℕ → Memory
copied memory target source =
    λ address. if lies_in target address then memory ((source + index_in target address) % 2 ^ target.width) else memory address

-- Fill: every byte of the target is the given one, and all other bytes stay.
abbrev pub filled : Memory → Range → ℕ → Memory
filled memory target byte = λ address. if lies_in target address then byte else memory address

-- Compare: the order of two lists of bytes of equal length, decided by the first two that differ, as unsigned numbers.
abbrev pub byte_order : List ℕ → List ℕ → Ordering
byte_order [] right = Equal
byte_order (a ∷ left) [] = Equal
byte_order (a ∷ left) (b ∷ right) = ordering_then (nat_cmp a b) (byte_order left right)

-- the range begins at an address, and isn't longer than there are addresses
pub record IsProper (range : Range) : Type 0 where
  pub start : range.start < 2 ^ range.width
  pub size : range.size ≤ 2 ^ range.width

-- What was written is read, what was copied is what the source held before, what was filled holds the byte; and each
-- leaves every address outside the range.
pub record MemoryLaws : Type 0 where
  pub written_read : (memory : Memory) (range : Range) (bytes : List ℕ) → IsProper range → length bytes ≡ range.size → bytes_in (written memory range bytes) range ≡ bytes
  pub copied_read : (memory : Memory) (target : Range) (source : ℕ) → IsProper target → bytes_in (copied memory target source) target ≡ bytes_in memory (record target { start = source })
  pub filled_read : (memory : Memory) (range : Range) (byte : ℕ) → IsProper range → bytes_in (filled memory range byte) range ≡ replicate range.size byte
  pub written_leaves : (memory : Memory) (range : Range) (bytes : List ℕ) (address : ℕ) → lies_in range address ≡ false → written memory range bytes address ≡ memory address
  pub copied_leaves : (memory : Memory) (target : Range) (source address : ℕ) → lies_in target address ≡ false → copied memory target source address ≡ memory address
  pub filled_leaves : (memory : Memory) (range : Range) (byte address : ℕ) → lies_in range address ≡ false → filled memory range byte address ≡ memory address
