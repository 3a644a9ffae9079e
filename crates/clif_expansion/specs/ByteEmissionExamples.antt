-- Worked examples: which copies, fills and comparisons may be emitted. From the documentation of Cranelift's memory helpers; that a
-- size fits the type of pointers is own.
use Rattle.std.specs.Prelude.{◌≡◌, ℕ, Bool, true, false, None}
use Rattle.clif_types.specs.MemFlags.{MemFlagsShape}
use Rattle.clif_types.specs.declared.condcodes.IntCC.{IntCC}
use Rattle.clif_types.specs.declared.condcodes.IntCC.TheVariants as cc
use Rattle.clif_types.specs.declared.libcall.LibCall.TheVariants.{Memcpy}
use Rattle.clif_types.specs.declared.types.LaneType.TheVariants as lane
use Rattle.clif_types.specs.declared.types.«Type».{«Type»}
use Rattle.clif_types.specs.declared.types.«Type».TheVariants as type
use Rattle.clif_meaning.specs.ByteOperation.{CompareBytes, Copy, Fill, CallLibrary}
use Rattle.clif_meaning.specs.Instruction.{Bytes}
use Rattle.clif_expansion.specs.ScriptCall.{can_emit}

abbrev pub i16 : «Type»
i16 = type.Lane lane.I16

abbrev pub i64 : «Type»
i64 = type.Lane lane.I64

abbrev pub no_flags : MemFlagsShape
no_flags = record { notrap = false; aligned = false; alias_region = None }

abbrev pub may_copy : «Type» → (size target_alignment source_alignment : ℕ) → Bool
may_copy ty size target source =
    can_emit (Bytes (Copy (record { size = size; target_alignment = target; source_alignment = source; no_overlap = false; flags = no_flags }))) ty

abbrev pub may_fill : «Type» → (byte size alignment : ℕ) → Bool
may_fill ty byte size alignment = can_emit (Bytes (Fill (record { byte = byte; size = size; alignment = alignment; flags = no_flags }))) ty

abbrev pub may_compare : «Type» → IntCC → (size : ℕ) → Bool
may_compare ty condition size =
    can_emit (Bytes (CompareBytes (record { condition = condition; size = size; left_alignment = 1; right_alignment = 1; flags = no_flags }))) ty

pub record ByteEmissionExamples : Type 0 where
  -- the size fits the type of pointers, and there are some bytes to copy
  pub fits : may_copy i16 65535 1 1 ≡ true
  pub too_many : may_copy i16 65536 1 1 ≡ false
  pub none : may_copy i64 0 1 1 ≡ false
  pub greatest : may_copy i64 0x8000_0000_0000_0000 1 1 ≡ true
  -- the smaller alignment is at most the power of two that divides the size
  pub one_small : may_copy i64 6 8 2 ≡ true
  pub both_large : may_copy i64 6 8 4 ≡ false
  pub fill_aligned : may_fill i64 0xab 6 2 ≡ true
  pub fill_too_aligned : may_fill i64 0xab 6 4 ≡ false
  pub no_byte : may_fill i64 256 6 2 ≡ false
  -- bytes are unsigned, and no bytes may be compared
  pub unsigned : may_compare i64 cc.UnsignedLessThan 3 ≡ true
  pub signed : may_compare i64 cc.SignedLessThan 3 ≡ false
  pub compare_none : may_compare i64 cc.Equal 0 ≡ true
  -- addresses are of a type of pointers
  pub call : can_emit (Bytes (CallLibrary Memcpy)) i64 ≡ true
  pub wide : can_emit (Bytes (CallLibrary Memcpy)) (type.Lane lane.I128) ≡ false
