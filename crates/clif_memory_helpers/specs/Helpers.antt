-- What memory helpers build: which plain calls perform each. After the documentation of Cranelift's `call_memcpy`, `call_memmove`,
-- `call_memset`, `call_memcmp`, `emit_small_memory_copy`, `emit_small_memset` and `emit_small_memory_compare`.
use Rattle.std.specs.Prelude.{◌≡◌, ◌<◌, ℕ, ℤ, pos, suc, ◌&&◌, min, Bool, true, false, IsTrue, List, [], ◌∷◌, ◌++◌, length, map, Option, Some, None, Result, IfOk, OnOk}
use Rattle.std.specs.Int.{cast_signed, w64}
use Rattle.std.specs.List.{AllZip}
use Rattle.clif_types.specs.Signature.{SignatureShape}
use Rattle.clif_types.specs.MemFlags.{MemFlagsShape}
use Rattle.clif_types.specs.Target.{pointer_type_of}
use Rattle.clif_types.specs.declared.error.BuildError.{BuildError}
use Rattle.clif_types.specs.declared.target.PointerWidth.{PointerWidth}
use Rattle.clif_types.specs.declared.condcodes.IntCC.{IntCC}
use Rattle.clif_types.specs.declared.extfunc.AbiParam.{AbiParam}
use Rattle.clif_types.specs.declared.extfunc.ExtFuncData.{ExtFuncData}
use Rattle.clif_types.specs.declared.extname.ExternalName.TheVariants as name
use Rattle.clif_types.specs.declared.libcall.LibCall.{LibCall}
use Rattle.clif_types.specs.declared.libcall.LibCall.TheVariants.{Memset, Memcmp}
use Rattle.clif_types.specs.declared.target.TargetFrontendConfig.{TargetFrontendConfig}
use Rattle.clif_types.specs.declared.types.«Type».{«Type»}
use Rattle.clif_instructions.specs.Instruction.{AFunctionRef}
use Rattle.clif_tables.specs.Entries.{AFunction, ASignature, TableEntry}
use Rattle.clif_tables.specs.Lists.{TableLists}
use Rattle.clif_access_plans.specs.Constants.{RepeatsByte}
use Rattle.clif_access_plans.specs.Plans.{compare_plan, fits_pointer, may_move, move_plan}
use Rattle.clif_access_plans.specs.declared.comparing.ComparePlan.{ComparePlan}
use Rattle.clif_access_plans.specs.declared.comparing.ComparePlan.TheVariants as compare
use Rattle.clif_access_plans.specs.declared.moving.Accesses.{Accesses}
use Rattle.clif_access_plans.specs.declared.moving.MovePlan.{MovePlan}
use Rattle.clif_access_plans.specs.declared.moving.MovePlan.TheVariants as move
use Rattle.clif_meaning.specs.ByteOperation.{ByteOperation, CallLibrary, CompareBytes, CompareShape, Copy, CopyShape, Fill, FillShape, is_unsigned}
use Rattle.clif_meaning.specs.Instruction.{Iconst, Instruction}
use Rattle.clif_meaning.specs.Library.{library_parameters, library_returns}
use Rattle.clif_meaning.specs.Name.{Name}
use Rattle.clif_meaning.specs.Request.{GivenEntry, Imported, Script}
use Rattle.clif_expansion.specs.Constants.{computing}
use Rattle.clif_expansion.specs.Emission.{building, line_calls_with}
use Rattle.clif_builder.specs.declared.builder.FunctionBuilder.{FunctionBuilder}
use Rattle.clif_builder.specs.Builder.{HasCurrent}
use Rattle.clif_helper_calls.specs.FillStanding.{fill_first, fill_last, loads_first, loads_last, set_first, set_last}
use Rattle.clif_helper_calls.specs.KnownStanding.{compare_first, compare_last, copy_first, copy_last}
use Rattle.clif_helper_calls.specs.LibraryCodes.{calling, copying_function, i8, i32}
use Rattle.clif_helper_calls.specs.PieceStanding.{copy_instructions, fill_instructions}
use Rattle.clif_memory_helpers.specs.Lines.{HasType, Makes, Requests, last_result, no_results, no_values, one_value}

-- THE C LIBRARY -----------------------------------------------------------------------------------------------------------

abbrev pub parameter : «Type» → AbiParam
parameter ty = record { value_type = ty }

-- the signature of a function of the C library, by the target
abbrev pub library_signature : TargetFrontendConfig → LibCall → SignatureShape
library_signature config callee = record {
  params = map parameter (library_parameters (pointer_type_of config.pointer_width) callee);
  returns = map parameter (library_returns (pointer_type_of config.pointer_width) callee);
  call_conv = config.default_call_conv;
}

-- the function with this signature
abbrev pub library_function : LibCall → (signature : ℕ) → ExtFuncData
library_function callee signature = record { name = name.LibCall callee; signature = signature; colocated = false; patchable = false }

-- what is imported into these tables: the signature and then the function
abbrev pub library_entries : TargetFrontendConfig → LibCall → TableLists → List TableEntry
library_entries config callee tables =
    ASignature (library_signature config callee) ∷ AFunction (library_function callee (length tables.signatures)) ∷ []

-- what calls of the function are given
abbrev pub imported : TableLists → List GivenEntry
imported tables = Imported (AFunctionRef (length tables.functions)) ∷ []

-- The function is imported, and then instructions are built, one of which calls it.
abbrev pub by_call : TargetFrontendConfig → LibCall → TableLists → (first : List (Instruction Name Name)) (last : Instruction Name Name) → Script
by_call config callee tables first last = line_calls_with (imported tables) (library_entries config callee tables) first last

-- the place behind the imports
abbrev pub behind_imports : ℕ → ℕ
behind_imports place = suc (suc place)

-- THE CALLS OF EACH HELPER ------------------------------------------------------------------------------------------------

-- a constant of so many bytes
abbrev pub size_constant : ℕ → ℤ
size_constant size = cast_signed w64 size

-- calls on as many operands as there are to be
abbrev pub on_one : (Name → Script) → List Name → Script
on_one made (a ∷ []) = made a
on_one made _ = []

abbrev pub on_two : (Name → Name → Script) → List Name → Script
on_two made (a ∷ b ∷ []) = made a b
on_two made _ = []

abbrev pub on_three : (Name → Name → Name → Script) → List Name → Script
on_three made (a ∷ b ∷ c ∷ []) = made a b c
on_three made _ = []

-- by the plan of a copy or a fill
abbrev pub moved_by : MovePlan → (pieces : Accesses → Script) → (call : Script) → Script
moved_by move.Nothing pieces call = []
moved_by (move.Inline accesses) pieces call = pieces accesses
moved_by move.LibraryCall pieces call = call

abbrev pub copy_calls : TargetFrontendConfig → CopyShape → TableLists → (place : ℕ) (target source : Name) → Script
copy_calls config copy tables place target source =
    moved_by (move_plan copy.size) (λ accesses. map building (copy_instructions copy accesses.ty target source place accesses.count))
    (by_call config (copying_function copy.no_overlap) tables (copy_first (pointer_type_of config.pointer_width) (size_constant copy.size))
    (copy_last copy (library_signature config (copying_function copy.no_overlap)) (behind_imports place) target source))

-- of a fill by stores, this is the constant that is stored
abbrev pub fill_calls : TargetFrontendConfig → FillShape → (filling : ℤ) → TableLists → (place : ℕ) (target : Name) → Script
fill_calls config fill filling tables place target =
    moved_by (move_plan fill.size) (λ accesses. map building (fill_instructions fill accesses.ty filling target place accesses.count))
    (by_call config Memset tables (fill_first (pointer_type_of config.pointer_width) (pos fill.byte) (size_constant fill.size) (behind_imports place))
    (fill_last (library_signature config Memset) (behind_imports place) target))

-- by the plan of a comparison
abbrev pub compared_by : ComparePlan → (constant : ℤ → Script) (loads : «Type» → Script) (call : Script) → Script
compared_by (compare.Constant number) constant loads call = constant number
compared_by (compare.Inline ty) constant loads call = loads ty
compared_by (compare.LibraryCall condition) constant loads call = call

abbrev pub compare_calls : TargetFrontendConfig → CompareShape → TableLists → (place : ℕ) (left right : Name) → Script
compare_calls config compared tables place left right =
    compared_by (compare_plan compared.condition compared.size) (λ number. building (computing (Iconst number) i8 []) ∷ [])
    (λ ty. map building (loads_first compared ty left right) ++ building (loads_last compared ty place) ∷ [])
    (by_call config Memcmp tables
    (compare_first (library_signature config Memcmp) (pointer_type_of config.pointer_width) (size_constant compared.size) (behind_imports place) left right)
    (compare_last compared (behind_imports place)))

-- a size that is a value
abbrev pub sized_calls : TargetFrontendConfig → LibCall → TableLists → (place : ℕ) (first second size : Name) → Script
sized_calls config Memset tables place target byte size =
    by_call config Memset tables (set_first byte) (set_last (library_signature config Memset) (behind_imports place) target size)
sized_calls config callee tables place first second size =
    by_call config callee tables [] (calling callee (library_signature config callee) first second size)

-- The table.
abbrev pub helper_calls : TargetFrontendConfig → ByteOperation → (filling : ℤ) → TableLists → Requests
helper_calls config (Copy copy) filling tables place names = on_two (copy_calls config copy tables place) names
helper_calls config (Fill fill) filling tables place names = on_one (fill_calls config fill filling tables place) names
helper_calls config (CompareBytes compared) filling tables place names = on_two (compare_calls config compared tables place) names
helper_calls config (CallLibrary callee) filling tables place names = on_three (sized_calls config callee tables place) names

-- WHAT MAY BE MADE --------------------------------------------------------------------------------------------------------

-- how many operands there are, and of which types, where it matters: the byte that `Memset` writes is an I8
abbrev pub operand_types : ByteOperation → List (Option «Type»)
operand_types (Copy copy) = None ∷ None ∷ []
operand_types (Fill fill) = None ∷ []
operand_types (CompareBytes compared) = None ∷ None ∷ []
operand_types (CallLibrary Memset) = None ∷ Some i8 ∷ None ∷ []
operand_types (CallLibrary callee) = None ∷ None ∷ None ∷ []

-- the value is there, and of this type
abbrev pub IsOperand : {R : Type 0} → FunctionBuilder R → ℕ → Option «Type» → Type 0
IsOperand b value None = value < length b.func.now.values
IsOperand b value (Some ty) = HasType b value ty

-- A size fits a pointer. Alignments of copies and fills are at most the greatest power of two that divides the size, for a copy the
-- smaller one. Bytes are unsigned.
abbrev pub may_make : PointerWidth → ByteOperation → Bool
may_make width (Copy copy) = may_move width copy.size (min copy.target_alignment copy.source_alignment)
may_make width (Fill fill) = may_move width fill.size fill.alignment
may_make width (CompareBytes compared) = is_unsigned compared.condition && fits_pointer width compared.size
may_make width (CallLibrary callee) = true

-- A helper may be called on these operands.
pub record MayHelp {R : Type 0} (b : FunctionBuilder R) (config : TargetFrontendConfig) (operation : ByteOperation) (operands : List ℕ) : Type 0 where
  pub current : HasCurrent b
  pub operands_exist : AllZip (IsOperand b) operands (operand_types operation)
  pub condition : IsTrue (may_make config.pointer_width operation)

-- WHAT IS MADE ------------------------------------------------------------------------------------------------------------

-- in a fill by stores the byte is repeated in this number
abbrev pub FillsWith : ByteOperation → (filling : ℤ) → Type 0
FillsWith (Fill fill) filling = (accesses : Accesses) → move_plan fill.size ≡ move.Inline accesses → RepeatsByte accesses.ty fill.byte filling
FillsWith _ filling = Unit {0}

-- A helper without a result was called.
pub record Helps {R : Type 0} (config : TargetFrontendConfig) (operation : ByteOperation) (operands : List ℕ) (old new : FunctionBuilder R) (answer : Result (Unit {0}) BuildError) : Type 0 where
  pub filling : ℤ
  pub fills : OnOk answer (FillsWith operation filling)
  pub made : Makes operands (helper_calls config operation filling old.func.now.tables) no_results no_values old new answer

-- the type of what a helper answers
abbrev pub answer_type : ByteOperation → «Type»
answer_type (CallLibrary callee) = i32
answer_type _ = i8

-- A helper with a result was called, which is the last call's.
pub record Answers {R : Type 0} (config : TargetFrontendConfig) (operation : ByteOperation) (operands : List ℕ) (old new : FunctionBuilder R) (answer : Result ℕ BuildError) : Type 0 where
  pub typed : IfOk answer (λ value. HasType new value (answer_type operation))
  pub made : Makes operands (helper_calls config operation (pos 0) old.func.now.tables)
      (last_result (helper_calls config operation (pos 0) old.func.now.tables)) one_value old new answer

-- THE OPERATION OF EACH CALL ----------------------------------------------------------------------------------------------

abbrev pub copying : (size target_alignment source_alignment : ℕ) (no_overlap : Bool) → MemFlagsShape → ByteOperation
copying size target source no_overlap flags =
    Copy (record { size = size; target_alignment = target; source_alignment = source; no_overlap = no_overlap; flags = flags })

abbrev pub filling_with : (byte size alignment : ℕ) → MemFlagsShape → ByteOperation
filling_with byte size alignment flags = Fill (record { byte = byte; size = size; alignment = alignment; flags = flags })

abbrev pub comparing : IntCC → (size left_alignment right_alignment : ℕ) → MemFlagsShape → ByteOperation
comparing condition size left right flags =
    CompareBytes (record { condition = condition; size = size; left_alignment = left; right_alignment = right; flags = flags })
