-- Worked examples of calls of functions of the C library, in every world with the accessible bytes that are chosen. The
-- answers are those of the C standard's <string.h>.
use Rattle.std.specs.Prelude.{◌≡◌, ◌≢◌, ℕ, ◌%◌, nat_lt, true, [], ◌∷◌, List, Option, Some, None}
use Rattle.clif_types.specs.Signature.{SignatureShape}
use Rattle.clif_types.specs.Target.{pointer_type_of}
use Rattle.clif_types.specs.Types.{bits_of}
use Rattle.clif_types.specs.declared.call_conv.CallConv.TheVariants.{SystemV}
use Rattle.clif_types.specs.declared.extname.ExternalName.TheVariants as name
use Rattle.clif_types.specs.declared.libcall.LibCall.{LibCall}
use Rattle.clif_types.specs.declared.libcall.LibCall.TheVariants.{Memcpy, Memmove, Memset, Memcmp}
use Rattle.clif_types.specs.declared.target.PointerWidth.{PointerWidth}
use Rattle.clif_types.specs.declared.types.LaneType.TheVariants as lane
use Rattle.clif_types.specs.declared.types.«Type».{«Type»}
use Rattle.clif_types.specs.declared.types.«Type».TheVariants as type
use Rattle.clif_meaning.specs.Bits.{Bits}
use Rattle.clif_meaning.specs.Event.{AtAddress, Default, Named, plain_call}
use Rattle.clif_meaning.specs.Instruction.{Call, CallIndirect, TryCall}
use Rattle.clif_meaning.specs.Library.{pointer_of}
use Rattle.clif_meaning.specs.Memory.{Memory}
use Rattle.clif_meaning.specs.Outcome.{Outcome, Calls, Gives, Goes, NoStep, outcome_of}
use Rattle.clif_meaning.specs.World.{World}

abbrev pub i8 : «Type»
i8 = type.Lane lane.I8

abbrev pub i16 : «Type»
i16 = type.Lane lane.I16

abbrev pub i32 : «Type»
i32 = type.Lane lane.I32

-- the world with pointers of 16 bits and the first 200 bytes accessible, and the one with all of them
abbrev pub with_some_bytes : World → World
with_some_bytes world = record world { pointer_width = 16; is_accessible = λ address. nat_lt address 200 }

abbrev pub with_every_byte : World → World
with_every_byte world = record world { pointer_width = 16; is_accessible = λ address. true }

-- memory in which each byte is the low one of its address
abbrev pub numbered : Memory
numbered address = address % 256

-- a signature that takes two types and an `i16`, and gives one type
abbrev pub taking : (first second given : «Type») → SignatureShape
taking first second given = record {
  params = record { value_type = first } ∷ record { value_type = second } ∷ record { value_type = i16 } ∷ [];
  returns = record { value_type = given } ∷ [];
  call_conv = SystemV;
}

abbrev pub copying : SignatureShape
copying = taking i16 i16 i16

abbrev pub filling : SignatureShape
filling = taking i16 i32 i16

abbrev pub comparing : SignatureShape
comparing = taking i16 i16 i32

-- a call of a function by this name and signature, in that memory
abbrev pub call : World → LibCall → SignatureShape → (first second size : Bits) → Outcome
call world callee signature first second size =
    outcome_of world (Call (name.LibCall callee) signature) type.Invalid [] (first ∷ second ∷ size ∷ []) numbered

-- what it answers, and a byte after it
abbrev pub answered : Outcome → Option (List Bits)
answered (Gives results memory) = Some results
answered _ = None

abbrev pub byte_after : Outcome → ℕ → Option ℕ
byte_after (Gives results memory) address = Some (memory address)
byte_after _ address = None

-- Three bytes from 110 on are copied to 100 and the places behind it; then bytes that overlap.
pub record CopyExamples (world : World) : Type 0 where
  pub answer : answered (call (with_some_bytes world) Memcpy copying 100 110 3) ≡ Some (100 ∷ [])
  pub before : byte_after (call (with_some_bytes world) Memcpy copying 100 110 3) 99 ≡ Some 99
  pub first : byte_after (call (with_some_bytes world) Memcpy copying 100 110 3) 100 ≡ Some 110
  pub last : byte_after (call (with_some_bytes world) Memcpy copying 100 110 3) 102 ≡ Some 112
  pub behind : byte_after (call (with_some_bytes world) Memcpy copying 100 110 3) 103 ≡ Some 103
  pub source_stays : byte_after (call (with_some_bytes world) Memcpy copying 100 110 3) 110 ≡ Some 110
  -- `Memcpy` has no meaning where its bytes overlap; next to one another they don't
  pub overlaps : call (with_some_bytes world) Memcpy copying 100 102 3 ≡ NoStep
  pub overlaps_below : call (with_some_bytes world) Memcpy copying 102 100 3 ≡ NoStep
  pub neighbours : byte_after (call (with_some_bytes world) Memcpy copying 100 103 3) 102 ≡ Some 105
  -- `Memmove` has: what was there before is copied, upward and downward
  pub moved_up : byte_after (call (with_some_bytes world) Memmove copying 101 100 3) 103 ≡ Some 102
  pub not_smeared : byte_after (call (with_some_bytes world) Memmove copying 101 100 3) 103 ≢ Some 100
  pub moved_down : byte_after (call (with_some_bytes world) Memmove copying 100 101 3) 101 ≡ Some 102
  -- no byte is copied, wherever it would be
  pub nothing : answered (call (with_some_bytes world) Memcpy copying 300 300 0) ≡ Some (300 ∷ [])
  -- a byte of the source, or of the target, isn't accessible
  pub source_outside : call (with_some_bytes world) Memmove copying 100 198 3 ≡ NoStep
  pub target_outside : call (with_some_bytes world) Memmove copying 198 100 3 ≡ NoStep

pub record FillExamples (world : World) : Type 0 where
  -- the low byte of 511 is 255
  pub answer : answered (call (with_some_bytes world) Memset filling 100 511 2) ≡ Some (100 ∷ [])
  pub first : byte_after (call (with_some_bytes world) Memset filling 100 511 2) 100 ≡ Some 255
  pub last : byte_after (call (with_some_bytes world) Memset filling 100 511 2) 101 ≡ Some 255
  pub behind : byte_after (call (with_some_bytes world) Memset filling 100 511 2) 102 ≡ Some 102
  pub not_wide : byte_after (call (with_some_bytes world) Memset filling 100 511 2) 101 ≢ Some 1
  -- after the last address comes address 0
  pub wraps : byte_after (call (with_every_byte world) Memset filling 65535 7 2) 0 ≡ Some 7
  pub wraps_once : byte_after (call (with_every_byte world) Memset filling 65535 7 2) 1 ≡ Some 1
  pub outside : call (with_some_bytes world) Memset filling 199 7 2 ≡ NoStep

pub record CompareExamples (world : World) : Type 0 where
  -- the world's number for these bytes; memory stays
  pub answer : call (with_some_bytes world) Memcmp comparing 100 110 2
      ≡ Gives (world.memcmp_number (100 ∷ 101 ∷ []) (110 ∷ 111 ∷ []) ∷ []) numbered
  -- equal bytes, though the ranges aren't one, and none at all
  pub equal : call (with_every_byte world) Memcmp comparing 3 259 2 ≡ Gives (0 ∷ []) numbered
  pub nothing : call (with_some_bytes world) Memcmp comparing 100 110 0 ≡ Gives (0 ∷ []) numbered

pub record LibraryCallExamples (world : World) : Type 0 where
  -- by another signature there is no meaning
  pub narrow_byte : call (with_some_bytes world) Memset (taking i16 i8 i16) 100 7 2 ≡ NoStep
  pub wide_pointer : call (with_some_bytes world) Memcpy (taking i32 i16 i16) 100 110 3 ≡ NoStep
  pub other_result : call (with_some_bytes world) Memcmp copying 100 110 3 ≡ NoStep
  pub wide_world : call (record (with_some_bytes world) { pointer_width = 64 }) Memcpy copying 100 110 3 ≡ NoStep
  -- a try call passes the answer along its normal edge
  pub tried : outcome_of (with_some_bytes world) (TryCall (name.LibCall Memcmp) (record { signature = comparing; items = Default ∷ [] }))
      type.Invalid [] (100 ∷ 110 ∷ 0 ∷ []) numbered ≡ Goes 0 (0 ∷ []) numbered
  -- what only has the function's name as a text is outside, and so is what is at an address
  pub other_name : (text : List ℕ) → outcome_of (with_some_bytes world) (Call (name.TestCase text) copying) type.Invalid [] (100 ∷ 110 ∷ 3 ∷ []) numbered
      ≡ Calls (Named (name.TestCase text)) (plain_call copying) (100 ∷ 110 ∷ 3 ∷ [])
  pub indirect : outcome_of (with_some_bytes world) (CallIndirect copying) type.Invalid [] (50 ∷ 100 ∷ 110 ∷ 3 ∷ []) numbered
      ≡ Calls (AtAddress 50 copying) (plain_call copying) (100 ∷ 110 ∷ 3 ∷ [])

-- The worked examples.
pub record LibraryExamples : Type 0 where
  pub copies : (world : World) → CopyExamples world
  pub fills : (world : World) → FillExamples world
  pub compares : (world : World) → CompareExamples world
  pub calls : (world : World) → LibraryCallExamples world
  -- the pointers of a world as wide as a configuration's are the configuration's
  pub pointers : (width : PointerWidth) → pointer_of (bits_of (pointer_type_of width)) ≡ pointer_type_of width
