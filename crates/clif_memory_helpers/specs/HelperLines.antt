-- The calls of a helper are a line that stands for its emission: copies, fills and comparisons that scripts emit are performed by them,
-- whatever was called before. Own.
use Rattle.std.specs.Prelude.{◌≡◌, ◌<◌, ◌^◌, ◌+◌, ◌==◌, ℕ, ℤ, false, IsTrue, List, [], ◌∷◌, length}
use Rattle.std.specs.List.{AllByRecursion, AllZip}
use Rattle.clif_types.specs.Target.{pointer_type_of}
use Rattle.clif_types.specs.declared.libcall.LibCall.{LibCall}
use Rattle.clif_types.specs.declared.libcall.LibCall.TheVariants.{Memset, Memcmp}
use Rattle.clif_types.specs.declared.target.TargetFrontendConfig.{TargetFrontendConfig}
use Rattle.clif_tables.specs.Entries.{TableEntry}
use Rattle.clif_tables.specs.Lists.{TableLists}
use Rattle.clif_access_plans.specs.Plans.{compare_plan, move_plan}
use Rattle.clif_access_plans.specs.declared.comparing.ComparePlan.{ComparePlan}
use Rattle.clif_access_plans.specs.declared.comparing.ComparePlan.TheVariants as compare
use Rattle.clif_access_plans.specs.declared.moving.MovePlan.{MovePlan}
use Rattle.clif_access_plans.specs.declared.moving.MovePlan.TheVariants as move
use Rattle.clif_meaning.specs.ByteOperation.{ByteOperation, CallLibrary, CompareBytes, CompareShape, Copy, CopyShape, Fill, FillShape}
use Rattle.clif_meaning.specs.Instruction.{Bytes, Instruction}
use Rattle.clif_meaning.specs.Name.{Name}
use Rattle.clif_meaning.specs.Request.{GivenEntry}
use Rattle.clif_expansion.specs.Emission.{AreAnswered, AreGenerated, AreGiven, LastResults, line_calls_with}
use Rattle.clif_expansion.specs.JoinedCalls.{IsImported}
use Rattle.clif_expansion.specs.Reading.{IsReadAs}
use Rattle.clif_helper_calls.specs.Codes.{doing}
use Rattle.clif_helper_calls.specs.LibraryCodes.{copying_function}
use Rattle.clif_helper_calls.specs.Lines.{Line, LineStands}
use Rattle.clif_memory_helpers.specs.Helpers.{FillsWith, helper_calls, library_entries, may_make}

abbrev pub if_moved_by_call : MovePlan → List TableEntry → List TableEntry
if_moved_by_call move.LibraryCall entries = entries
if_moved_by_call _ entries = []

abbrev pub if_compared_by_call : ComparePlan → List TableEntry → List TableEntry
if_compared_by_call (compare.LibraryCall condition) entries = entries
if_compared_by_call _ entries = []

-- what a helper imports into these tables
abbrev pub imports_for : TargetFrontendConfig → ByteOperation → TableLists → List TableEntry
imports_for config (Copy copy) tables = if_moved_by_call (move_plan copy.size) (library_entries config (copying_function copy.no_overlap) tables)
imports_for config (Fill fill) tables = if_moved_by_call (move_plan fill.size) (library_entries config Memset tables)
imports_for config (CompareBytes compared) tables = if_compared_by_call (compare_plan compared.condition compared.size) (library_entries config Memcmp tables)
imports_for config (CallLibrary callee) tables = library_entries config callee tables

-- a comparison answers, and nothing else
abbrev pub how_of : ByteOperation → LastResults
how_of (CompareBytes compared) = AreGiven
how_of (CallLibrary Memcmp) = AreGiven
how_of _ = AreGenerated

-- the operation of the script
abbrev pub emission_of : TargetFrontendConfig → ByteOperation → List Name → Instruction Name Name
emission_of config operation names = doing (Bytes operation) (pointer_type_of config.pointer_width) names

-- The helper's calls, from any place on, are a line with its imports, and the line stands for the operation of the script.
pub record IsLineOf (config : TargetFrontendConfig) (operation : ByteOperation) (filling : ℤ) (tables : TableLists) (names given_names : List Name) : Type 0 where
  pub line : Line
  pub how : line.how ≡ how_of operation
  pub emission : line.emission ≡ emission_of config operation given_names
  pub answered : (place : ℕ) → AreAnswered line.how (line.last place) line.emission
  pub given : List GivenEntry
  pub imported : AllByRecursion IsImported given
  pub requests : (place : ℕ) → helper_calls config operation filling tables place names
      ≡ line_calls_with given (imports_for config operation tables) (line.code (length (imports_for config operation tables) + place))
      (line.last (length (imports_for config operation tables) + place))
  pub stands : LineStands (pointer_type_of config.pointer_width) line (λ reading. AllZip (IsReadAs reading) names given_names)

-- sizes have 64 bits
abbrev pub has_64 : ℕ → Type 0
has_64 size = size < 2 ^ 64

-- Helpers of some bytes, which may be made.
pub record HelpersAreLines : Type 0 where
  pub copies : (config : TargetFrontendConfig) (copy : CopyShape) (filling : ℤ) (tables : TableLists) (target source given_target given_source : Name)
      → IsTrue (may_make config.pointer_width (Copy copy)) → has_64 copy.size → (copy.size == 0) ≡ false
      → IsLineOf config (Copy copy) filling tables (target ∷ source ∷ []) (given_target ∷ given_source ∷ [])
  pub fills : (config : TargetFrontendConfig) (fill : FillShape) (filling : ℤ) (tables : TableLists) (target given_target : Name)
      → IsTrue (may_make config.pointer_width (Fill fill)) → has_64 fill.size → fill.byte < 256 → (fill.size == 0) ≡ false → FillsWith (Fill fill) filling
      → IsLineOf config (Fill fill) filling tables (target ∷ []) (given_target ∷ [])
  pub compares : (config : TargetFrontendConfig) (compared : CompareShape) (filling : ℤ) (tables : TableLists) (left right given_left given_right : Name)
      → IsTrue (may_make config.pointer_width (CompareBytes compared))
      → IsLineOf config (CompareBytes compared) filling tables (left ∷ right ∷ []) (given_left ∷ given_right ∷ [])
  pub sized : (config : TargetFrontendConfig) (callee : LibCall) (filling : ℤ) (tables : TableLists) (first second size given_first given_second given_size : Name)
      → IsLineOf config (CallLibrary callee) filling tables (first ∷ second ∷ size ∷ []) (given_first ∷ given_second ∷ given_size ∷ [])
