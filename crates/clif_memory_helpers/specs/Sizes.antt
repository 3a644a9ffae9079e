-- How many entries of each table of a function a memory helper makes at most. Own, after the plans of its calls.
use Rattle.std.specs.Prelude.{◌+◌, ℕ, suc}
use Rattle.clif_types.specs.declared.target.TargetFrontendConfig.{TargetFrontendConfig}
use Rattle.clif_access_plans.specs.Plans.{compare_plan, move_plan}
use Rattle.clif_access_plans.specs.declared.comparing.ComparePlan.{ComparePlan}
use Rattle.clif_access_plans.specs.declared.comparing.ComparePlan.TheVariants as compare
use Rattle.clif_access_plans.specs.declared.moving.MovePlan.{MovePlan}
use Rattle.clif_access_plans.specs.declared.moving.MovePlan.TheVariants as move
use Rattle.clif_meaning.specs.ByteOperation.{ByteOperation, CallLibrary, CompareBytes, Copy, Fill}
use Rattle.clif_meaning.specs.Sizes.{Table, Functions, Instructions, Signatures, Values}

-- so many values, instructions, signatures and functions, and no other entries
abbrev pub line_makes : (values instructions signatures functions : ℕ) → Table → ℕ
line_makes values instructions signatures functions Values = values
line_makes values instructions signatures functions Instructions = instructions
line_makes values instructions signatures functions Signatures = signatures
line_makes values instructions signatures functions Functions = functions
line_makes values instructions signatures functions _ = 0

-- The signature and the function of the C library are imported, and there are at most four instructions, each with a result.
abbrev pub library_makes : Table → ℕ
library_makes = line_makes 4 4 1 1

-- by the plan of a copy or a fill, with what so many accesses make
abbrev pub move_makes : MovePlan → (pieces : (count : ℕ) → Table → ℕ) → Table → ℕ
move_makes move.Nothing pieces = line_makes 0 0 0 0
move_makes (move.Inline accesses) pieces = pieces accesses.count
move_makes move.LibraryCall pieces = library_makes

-- a load of each piece and a store of it
abbrev pub copy_makes : (count : ℕ) → Table → ℕ
copy_makes count = line_makes count (count + count) 0 0

-- a constant, and stores of it
abbrev pub fill_makes : (count : ℕ) → Table → ℕ
fill_makes count = line_makes 1 (suc count) 0 0

-- by the plan of a comparison: a constant, or two loads and their comparison
abbrev pub compare_makes : ComparePlan → Table → ℕ
compare_makes (compare.Constant number) = line_makes 1 1 0 0
compare_makes (compare.Inline ty) = line_makes 3 3 0 0
compare_makes (compare.LibraryCall condition) = library_makes

-- The table, at any target.
abbrev pub helper_makes : TargetFrontendConfig → ByteOperation → Table → ℕ
helper_makes config (Copy copy) = move_makes (move_plan copy.size) copy_makes
helper_makes config (Fill fill) = move_makes (move_plan fill.size) fill_makes
helper_makes config (CompareBytes compared) = compare_makes (compare_plan compared.condition compared.size)
helper_makes config (CallLibrary callee) = library_makes
