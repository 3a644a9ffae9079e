-- Worked examples of copies, fills and comparisons as operations of scripts, in every world with the accessible bytes that are
-- chosen. The answers are those of the C standard's <string.h> and of Cranelift's tests of its memory helpers.
use Rattle.std.specs.Prelude.{◌≡◌, ℕ, ◌-◌, nat_lt, true, false, if◌then◌else◌, [], ◌∷◌}
use Rattle.clif_types.specs.declared.condcodes.IntCC.{IntCC}
use Rattle.clif_types.specs.declared.condcodes.IntCC.TheVariants as cc
use Rattle.clif_types.specs.declared.libcall.LibCall.TheVariants.{Memcpy, Memmove, Memset, Memcmp}
use Rattle.clif_meaning.specs.Access.{Accessible, Aligned, Apart, claims_of}
use Rattle.clif_meaning.specs.ByteOperation.{CompareBytes, Copy, Fill, CallLibrary, CompareShape, CopyShape, FillShape, access_size, greatest_power, is_by_accesses, is_by_loads}
use Rattle.clif_meaning.specs.Instruction.{Bytes}
use Rattle.clif_meaning.specs.Memory.{Memory, bytes_in}
use Rattle.clif_meaning.specs.Outcome.{Outcome, Gives, NoStep, outcome_of}
use Rattle.clif_meaning.specs.Program.{result_types}
use Rattle.clif_meaning.specs.World.{World}
use Rattle.clif_outcome_laws.specs.LibraryExamples.{i8, i16, i32, with_every_byte, with_some_bytes}
use Rattle.clif_outcome_laws.specs.MemoryExamples.{aligned, plain}

-- bytes 1 .. 16 from 100 on, and 0 elsewhere
abbrev pub sixteen : Memory
sixteen address = if nat_lt address 100 then 0 else (if nat_lt address 116 then address - 99 else 0)

-- a copy, a fill and a comparison of so many bytes, with no alignment and no flag
abbrev pub copying_bytes : (size : ℕ) → CopyShape
copying_bytes size = record { size = size; target_alignment = 1; source_alignment = 1; no_overlap = false; flags = plain }

abbrev pub filling_bytes : (byte size : ℕ) → FillShape
filling_bytes byte size = record { byte = byte; size = size; alignment = 1; flags = plain }

abbrev pub comparing_bytes : IntCC → (size : ℕ) → CompareShape
comparing_bytes condition size = record { condition = condition; size = size; left_alignment = 1; right_alignment = 1; flags = plain }

-- memory after an outcome that gives
abbrev pub memory_after : Outcome → Memory
memory_after (Gives results memory) = memory
memory_after _ = λ address. 999

-- a copy of twelve bytes four places up, over themselves
abbrev pub copied_up : World → Outcome
copied_up world = outcome_of (with_every_byte world) (Bytes (Copy (copying_bytes 12))) i16 (i16 ∷ i16 ∷ []) (104 ∷ 100 ∷ []) sixteen

-- a fill of six bytes from 110 on
abbrev pub filled_over : World → Outcome
filled_over world = outcome_of (with_every_byte world) (Bytes (Fill (filling_bytes 0xab 6))) i16 (i16 ∷ []) (110 ∷ []) sixteen

-- what a comparison of so many bytes from 100 and from 101 on gives
abbrev pub compared : World → IntCC → (size : ℕ) → Outcome
compared world condition size =
    outcome_of (with_every_byte world) (Bytes (CompareBytes (comparing_bytes condition size))) i16 (i16 ∷ i16 ∷ []) (100 ∷ 101 ∷ []) sixteen

pub record ByteOperationExamples (world : World) : Type 0 where
  pub copy : bytes_in (memory_after (copied_up world)) (record { width = 16; start = 100; size = 16 })
      ≡ 1 ∷ 2 ∷ 3 ∷ 4 ∷ 1 ∷ 2 ∷ 3 ∷ 4 ∷ 5 ∷ 6 ∷ 7 ∷ 8 ∷ 9 ∷ 10 ∷ 11 ∷ 12 ∷ []
  pub fill : bytes_in (memory_after (filled_over world)) (record { width = 16; start = 109; size = 8 })
      ≡ 10 ∷ 0xab ∷ 0xab ∷ 0xab ∷ 0xab ∷ 0xab ∷ 0xab ∷ 0 ∷ []
  -- the first byte decides: 1 is less than 2
  pub less : compared world cc.UnsignedLessThan 3 ≡ Gives (1 ∷ []) sixteen
  pub not_greater : compared world cc.UnsignedGreaterThan 3 ≡ Gives (0 ∷ []) sixteen
  pub not_equal : compared world cc.Equal 3 ≡ Gives (0 ∷ []) sixteen
  pub unequal : compared world cc.NotEqual 3 ≡ Gives (1 ∷ []) sixteen
  pub less_or_equal : compared world cc.UnsignedLessThanOrEqual 3 ≡ Gives (1 ∷ []) sixteen
  pub not_greater_or_equal : compared world cc.UnsignedGreaterThanOrEqual 3 ≡ Gives (0 ∷ []) sixteen
  -- a byte of the source isn't accessible, or there is an operand too few
  pub outside : outcome_of (with_some_bytes world) (Bytes (Copy (copying_bytes 3))) i16 (i16 ∷ i16 ∷ []) (100 ∷ 198 ∷ []) sixteen ≡ NoStep
  pub one_operand : outcome_of (with_every_byte world) (Bytes (Copy (copying_bytes 3))) i16 (i16 ∷ []) (100 ∷ []) sixteen ≡ NoStep
  -- a call gives nothing, but for the number of a comparison; `Memcpy` has no meaning where bytes overlap
  pub moved : bytes_in (memory_after (outcome_of (with_every_byte world) (Bytes (CallLibrary Memmove)) i16 (i16 ∷ i16 ∷ i16 ∷ []) (101 ∷ 100 ∷ 3 ∷ []) sixteen))
      (record { width = 16; start = 100; size = 5 }) ≡ 1 ∷ 1 ∷ 2 ∷ 3 ∷ 5 ∷ []
  pub overlaps : outcome_of (with_every_byte world) (Bytes (CallLibrary Memcpy)) i16 (i16 ∷ i16 ∷ i16 ∷ []) (101 ∷ 100 ∷ 3 ∷ []) sixteen ≡ NoStep
  pub numbered : outcome_of (with_every_byte world) (Bytes (CallLibrary Memcmp)) i16 (i16 ∷ i16 ∷ i16 ∷ []) (100 ∷ 101 ∷ 2 ∷ []) sixteen
      ≡ Gives (world.memcmp_number (1 ∷ 2 ∷ []) (2 ∷ 3 ∷ []) ∷ []) sixteen

-- What is claimed, what is given, and by which sizes accesses are made.
pub record ByteClaimExamples (world : World) : Type 0 where
  pub copy : claims_of world (Bytes (Copy (record { size = 12; target_alignment = 4; source_alignment = 2; no_overlap = true; flags = aligned }))) i16 (i16 ∷ i16 ∷ []) (104 ∷ 300 ∷ [])
      ≡ Accessible (record { width = 16; start = 104; size = 12 }) ∷ Accessible (record { width = 16; start = 300; size = 12 })
      ∷ Aligned 104 4 ∷ Aligned 300 2
      ∷ Apart (record { width = 16; start = 104; size = 12 }) (record { width = 16; start = 300; size = 12 })
      ∷ Aligned 104 4 ∷ Aligned 300 4 ∷ []
  -- flags speak of accesses, of which a call has none
  pub by_call : claims_of world (Bytes (Fill (record { byte = 0; size = 40; alignment = 8; flags = aligned }))) i16 (i16 ∷ []) (104 ∷ [])
      ≡ Accessible (record { width = 16; start = 104; size = 40 }) ∷ Aligned 104 8 ∷ []
  pub nothing_given : result_types (Bytes (CallLibrary Memset)) i16 ≡ []
  pub number_given : result_types (Bytes (CallLibrary Memcmp)) i16 ≡ i32 ∷ []
  pub bit_given : result_types (Bytes (CompareBytes (comparing_bytes cc.Equal 4))) i16 ≡ i8 ∷ []

pub record SizeExamples : Type 0 where
  pub of_six : access_size 6 ≡ 2
  pub of_twelve : access_size 12 ≡ 4
  pub of_sixteen : access_size 16 ≡ 8
  pub greatest : greatest_power 0x8000_0000_0000_0000 ≡ 0x8000_0000_0000_0000
  pub twelve : is_by_accesses 12 ≡ true
  pub sixteen : is_by_accesses 16 ≡ true
  pub five : is_by_accesses 5 ≡ false
  pub forty : is_by_accesses 40 ≡ false
  pub greatest_by_call : is_by_accesses 0x8000_0000_0000_0000 ≡ false
  pub sixteen_loaded : is_by_loads cc.Equal 16 ≡ true
  pub three_called : is_by_loads cc.NotEqual 3 ≡ false
  pub one_ordered : is_by_loads cc.UnsignedLessThan 1 ≡ true
  pub two_called : is_by_loads cc.UnsignedLessThan 2 ≡ false

pub record BytesWorkedOut : Type 0 where
  pub outcomes : (world : World) → ByteOperationExamples world
  pub claims : (world : World) → ByteClaimExamples world
  pub sizes : SizeExamples
