-- Memory that is loaded and stored in pieces of equal size, one behind another, as the inline code of a copy or a fill
-- does: what that comes to, and where the pieces lie. The meanings are those of C's `memmove` and `memset`; addresses
-- count modulo their width.
use Rattle.std.specs.Prelude.{◌≡◌, ℕ, zero, suc, ◌+◌, ◌*◌, ◌%◌, ◌^◌, ◌<◌, ◌≤◌, List, [], ◌∷◌, replicate, true, pos}
use Rattle.clif_meaning.specs.Access.{Holds, Accessible, Aligned}
use Rattle.clif_meaning.specs.Bits.{Bits, value_bytes, value_of_bytes, wrapped}
use Rattle.clif_meaning.specs.Examples.{counting_from}
use Rattle.clif_meaning.specs.Library.{bytes_at}
use Rattle.clif_meaning.specs.Memory.{Memory, Range, bytes_in, lies_in, copied, filled, written}
use Rattle.clif_meaning.specs.Outcome.{repeated}
use Rattle.clif_meaning.specs.World.{World}

-- each address holds a byte
abbrev pub HoldsBytes : Memory → Type 0
HoldsBytes memory = (address : ℕ) → memory address < 256

-- what loads of so many pieces give, each of this size, the first one from this address on
abbrev pub pieces_loaded : Memory → (width size source count : ℕ) → List Bits
pieces_loaded memory width size source zero = []
pieces_loaded memory width size source (suc count) =
    value_of_bytes (bytes_in memory (bytes_at width source size)) ∷ pieces_loaded memory width size (source + size) count

-- memory after stores of these values to pieces of this size, the first one from this address on
abbrev pub pieces_stored : Memory → (width size target : ℕ) → List Bits → Memory
pieces_stored memory width size target [] = memory
pieces_stored memory width size target (bits ∷ values) =
    pieces_stored (written memory (bytes_at width target size) (value_bytes size bits)) width size (target + size) values

-- the number of this size whose bytes are all the given one
abbrev pub repeated_byte : (size byte : ℕ) → Bits
repeated_byte size byte = repeated size 8 byte

-- Loads of all pieces and then stores of them copy, and stores of the repeated byte fill, where there are no fewer addresses
-- than bytes; and bytes are left.
pub record PiecesMakeWhole : Type 0 where
  pub copies : (memory : Memory) (width size target source count : ℕ) → HoldsBytes memory → count * size ≤ 2 ^ width
      → pieces_stored memory width size target (pieces_loaded memory width size source count)
      ≡ copied memory (bytes_at width target (count * size)) source
  pub fills : (memory : Memory) (width size target byte count : ℕ) → byte < 256 → count * size ≤ 2 ^ width
      → pieces_stored memory width size target (replicate count (repeated_byte size byte))
      ≡ filled memory (bytes_at width target (count * size)) byte
  pub copy_holds_bytes : (memory : Memory) (target : Range) (source : ℕ) → HoldsBytes memory → HoldsBytes (copied memory target source)
  pub fill_holds_bytes : (memory : Memory) (target : Range) (byte : ℕ) → HoldsBytes memory → byte < 256 → HoldsBytes (filled memory target byte)
  -- a load of a piece loses no bit
  pub whole_load : (memory : Memory) (range : Range) → HoldsBytes memory
      → value_of_bytes (bytes_in memory range) % 2 ^ (8 * range.size) ≡ value_of_bytes (bytes_in memory range)

-- The piece at a place lies where the whole does; it begins where an access at the piece's offset does; what is accessible of
-- the whole is so of the piece; and where the whole has an alignment that is no less than the size, each piece has its size.
pub record PiecesLieWithin : Type 0 where
  pub begins : (width size start place : ℕ) → (start + wrapped width (pos (place * size))) % 2 ^ width ≡ (start + place * size) % 2 ^ width
  pub within : (width size start place count address : ℕ) → place < count
      → lies_in (bytes_at width (start + place * size) size) address ≡ true
      → lies_in (bytes_at width start (count * size)) address ≡ true
  pub accessible : (world : World) (width size start place count : ℕ) → place < count
      → Holds world (Accessible (bytes_at width start (count * size)))
      → Holds world (Accessible (bytes_at width (start + place * size) size))
  pub aligned : (world : World) (width shift start place alignment : ℕ) → 2 ^ shift ≤ alignment → shift ≤ width
      → Holds world (Aligned start alignment)
      → Holds world (Aligned ((start + place * 2 ^ shift) % 2 ^ width) (2 ^ shift))

-- Worked out: sixteen bytes 01 .. 10 (hexadecimal) from 100 on, of which twelve are copied four places up, over themselves, by
-- three pieces of four bytes. Where each piece is stored before the next is loaded, the first four bytes are repeated instead.
abbrev pub copied_up : Memory
copied_up = pieces_stored (counting_from 100) 64 4 104 (pieces_loaded (counting_from 100) 64 4 100 3)

abbrev pub store_before_next_load : (count : ℕ) (source : ℕ) → Memory → Memory
store_before_next_load zero source memory = memory
store_before_next_load (suc count) source memory =
    store_before_next_load count (source + 4) (pieces_stored memory 64 4 (source + 4) (pieces_loaded memory 64 4 source 1))

abbrev pub sixteen : Range
sixteen = record { width = 64; start = 100; size = 16 }

pub record PieceExamples : Type 0 where
  pub copy : bytes_in copied_up sixteen ≡ 1 ∷ 2 ∷ 3 ∷ 4 ∷ 1 ∷ 2 ∷ 3 ∷ 4 ∷ 5 ∷ 6 ∷ 7 ∷ 8 ∷ 9 ∷ 10 ∷ 11 ∷ 12 ∷ []
  pub other_order : bytes_in (store_before_next_load 3 100 (counting_from 100)) sixteen
      ≡ 1 ∷ 2 ∷ 3 ∷ 4 ∷ 1 ∷ 2 ∷ 3 ∷ 4 ∷ 1 ∷ 2 ∷ 3 ∷ 4 ∷ 1 ∷ 2 ∷ 3 ∷ 4 ∷ []
  pub repeated_twice : repeated_byte 2 0xab ≡ 0xabab
  pub repeated_whole : repeated_byte 8 0xab ≡ 0xabab_abab_abab_abab
  -- two pieces of two bytes, over the end of the addresses of 16 bits
  pub round_the_end : bytes_in (pieces_stored (λ address. 0) 16 2 65533 (0x0201 ∷ 0x0403 ∷ [])) (record { width = 16; start = 65533; size = 5 })
      ≡ 1 ∷ 2 ∷ 3 ∷ 4 ∷ 0 ∷ []
