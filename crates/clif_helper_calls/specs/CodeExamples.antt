-- Worked examples: the code of a copy of twelve bytes and of a fill of six, and what isn't such code. The rows are those of the texts
-- that the documentation of Cranelift's memory helpers comes to.
use Rattle.std.specs.Prelude.{◌≡◌, ℕ, pos, negsuc, false, true, None, List, [], ◌∷◌}
use Rattle.clif_types.specs.MemFlags.{MemFlagsShape}
use Rattle.clif_types.specs.declared.types.LaneType.TheVariants as lane
use Rattle.clif_types.specs.declared.types.«Type».{«Type»}
use Rattle.clif_types.specs.declared.types.«Type».TheVariants as type
use Rattle.clif_access_plans.specs.Constants.{RepeatsByte}
use Rattle.clif_meaning.specs.ByteOperation.{CopyShape, FillShape}
use Rattle.clif_meaning.specs.Instruction.{Iconst, Instruction, Load, Store}
use Rattle.clif_meaning.specs.Name.{Name, answer_of}
use Rattle.clif_expansion.specs.Constants.{computing}
use Rattle.clif_helper_calls.specs.Codes.{doing}
use Rattle.clif_helper_calls.specs.Performing.{HasAccesses}
use Rattle.clif_helper_calls.specs.PieceStanding.{copy_instructions, fill_instructions}

abbrev pub i8 : «Type»
i8 = type.Lane lane.I8

abbrev pub i16 : «Type»
i16 = type.Lane lane.I16

abbrev pub i32 : «Type»
i32 = type.Lane lane.I32

abbrev pub no_flags : MemFlagsShape
no_flags = record { notrap = false; aligned = false; alias_region = None }

abbrev pub aligned : MemFlagsShape
aligned = record { notrap = false; aligned = true; alias_region = None }

abbrev pub copy_of_twelve : (target_alignment source_alignment : ℕ) → CopyShape
copy_of_twelve target source = record { size = 12; target_alignment = target; source_alignment = source; no_overlap = false; flags = no_flags }

abbrev pub fill_of_six : (alignment : ℕ) → FillShape
fill_of_six alignment = record { byte = 0xab; size = 6; alignment = alignment; flags = no_flags }

-- three loads and three stores, each with these flags; its loads are at the places 2, 3 and 4
abbrev pub three_pieces : MemFlagsShape → (target source : Name) → List (Instruction Name Name)
three_pieces flags target source =
    doing (Load flags (pos 0)) i32 (source ∷ [])
    ∷ doing (Load flags (pos 4)) i32 (source ∷ [])
    ∷ doing (Load flags (pos 8)) i32 (source ∷ [])
    ∷ doing (Store flags (pos 0)) i32 (answer_of 2 1 ∷ target ∷ [])
    ∷ doing (Store flags (pos 4)) i32 (answer_of 3 1 ∷ target ∷ [])
    ∷ doing (Store flags (pos 8)) i32 (answer_of 4 1 ∷ target ∷ []) ∷ []

-- 0xabab as a signed number of sixteen bits is -0x5455
abbrev pub constant_and_stores : MemFlagsShape → (target : Name) → List (Instruction Name Name)
constant_and_stores flags target =
    computing (Iconst (negsuc 0x5454)) i16 []
    ∷ doing (Store flags (pos 0)) i16 (answer_of 1 1 ∷ target ∷ [])
    ∷ doing (Store flags (pos 2)) i16 (answer_of 1 1 ∷ target ∷ [])
    ∷ doing (Store flags (pos 4)) i16 (answer_of 1 1 ∷ target ∷ []) ∷ []

-- each piece stored before the next one is loaded
abbrev pub stored_before_next_load : MemFlagsShape → (target source : Name) → List (Instruction Name Name)
stored_before_next_load flags target source =
    doing (Load flags (pos 0)) i32 (source ∷ [])
    ∷ doing (Store flags (pos 0)) i32 (answer_of 2 1 ∷ target ∷ [])
    ∷ doing (Load flags (pos 4)) i32 (source ∷ [])
    ∷ doing (Store flags (pos 4)) i32 (answer_of 4 1 ∷ target ∷ [])
    ∷ doing (Load flags (pos 8)) i32 (source ∷ [])
    ∷ doing (Store flags (pos 8)) i32 (answer_of 6 1 ∷ target ∷ []) ∷ []

pub record CodeExamples : Type 0 where
  pub copy : (target source : Name) → copy_instructions (copy_of_twelve 1 1) i32 target source 2 3 ≡ three_pieces no_flags target source
  -- accesses are aligned where both sides are
  pub aligned_copy : (target source : Name) → copy_instructions (copy_of_twelve 4 4) i32 target source 2 3 ≡ three_pieces aligned target source
  pub one_side : (target source : Name) → copy_instructions (copy_of_twelve 4 2) i32 target source 2 3 ≡ three_pieces no_flags target source
  pub in_turns : (target source : Name) → stored_before_next_load no_flags target source ≡ copy_instructions (copy_of_twelve 1 1) i32 target source 2 3 → ⊥
  pub fill : (target : Name) → fill_instructions (fill_of_six 2) i16 (negsuc 0x5454) target 1 3 ≡ constant_and_stores aligned target
  pub fill_unaligned : (target : Name) → fill_instructions (fill_of_six 1) i16 (negsuc 0x5454) target 1 3 ≡ constant_and_stores no_flags target
  -- twelve bytes are three pieces of four, and neither two of them nor six of two
  pub three : HasAccesses i32 12 3
  pub one_short : HasAccesses i32 12 2 → ⊥
  pub too_narrow : HasAccesses i16 12 6 → ⊥
  -- five bytes aren't copied by accesses
  pub five : HasAccesses i8 5 5 → ⊥
  pub constant : RepeatsByte i16 0xab (negsuc 0x5454)
  pub repeated_too_few : RepeatsByte i16 0xab (pos 0xab) → ⊥
  -- the sign is repeated
  pub unsigned : RepeatsByte i16 0xab (pos 0xabab) → ⊥
