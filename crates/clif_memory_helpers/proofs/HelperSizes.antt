-- How many entries of each table the plain calls of memory helpers make at most.
use Rattle.std.proofs.Common.{◌≡◌, ◌≤◌, ◌+◌, ◌*◌, ℕ, zero, suc, ℤ, pos, List, [], ◌∷◌, ◌++◌, length, map, replicate, refl, ap, subst, arith}
use Rattle.std.specs.List.{AllByRecursion}
use Rattle.std.proofs.lemmas.List.{length-replicate}
use Rattle.clif_types.specs.MemFlags.{MemFlagsShape}
use Rattle.clif_types.specs.declared.libcall.LibCall.{LibCall}
use Rattle.clif_types.specs.declared.libcall.LibCall.TheVariants.{Memcpy, Memmove, Memset, Memcmp}
use Rattle.clif_types.specs.declared.target.TargetFrontendConfig.{TargetFrontendConfig}
use Rattle.clif_types.specs.declared.types.«Type».{«Type»}
use Rattle.clif_types.specs.Target.{pointer_type_of}
use Rattle.clif_tables.specs.Lists.{TableLists}
use Rattle.clif_access_plans.specs.Plans.{compare_plan, move_plan}
use Rattle.clif_access_plans.specs.declared.comparing.ComparePlan.{ComparePlan}
use Rattle.clif_access_plans.specs.declared.comparing.ComparePlan.TheVariants as compare
use Rattle.clif_access_plans.specs.declared.moving.Accesses.{Accesses}
use Rattle.clif_access_plans.specs.declared.moving.MovePlan.{MovePlan}
use Rattle.clif_access_plans.specs.declared.moving.MovePlan.TheVariants as move
use Rattle.clif_meaning.specs.ByteOperation.{ByteOperation, CallLibrary, CompareBytes, CompareShape, Copy, CopyShape, Fill, FillShape, access_size}
use Rattle.clif_meaning.specs.Instruction.{Iconst, Instruction, Load, Store}
use Rattle.clif_meaning.specs.Name.{Name, answer_of}
use Rattle.clif_meaning.specs.Program.{result_types}
use Rattle.clif_meaning.specs.Request.{GivenEntry, Script}
use Rattle.clif_meaning.specs.Sizes.{Table, Constants, Instructions, Values, constants_for, made_by_script}
use Rattle.clif_expansion.specs.Constants.{computing}
use Rattle.clif_expansion.specs.Emission.{building, building_with}
use Rattle.clif_helper_calls.specs.Codes.{copy_flags, doing, fill_flags}
use Rattle.clif_helper_calls.specs.FillStanding.{fill_first, fill_last, loads_first, loads_last, set_first, set_last}
use Rattle.clif_helper_calls.specs.KnownStanding.{compare_first, compare_last, copy_first, copy_last}
use Rattle.clif_helper_calls.specs.LibraryCodes.{calling, copying_function, i8}
use Rattle.clif_helper_calls.specs.PieceStanding.{copy_instructions, fill_instructions, load_instructions, piece_names, store_instructions}
use Rattle.clif_memory_helpers.specs.Helpers.{behind_imports, by_call, compare_calls, compared_by, copy_calls, fill_calls, helper_calls, imported, library_signature, moved_by, size_constant, sized_calls}
use Rattle.clif_memory_helpers.specs.Sizes.{compare_makes, copy_makes, fill_makes, helper_makes, library_makes, line_makes, move_makes}

-- the calls make at most this
abbrev Few : Script → (Table → ℕ) → Type 0
Few script most = (table : Table) → made_by_script script table ≤ most table

none_few : (most : Table → ℕ) → Few [] most
none_few most table = omega arith

-- INSTRUCTIONS ------------------------------------------------------------------------------------------------------------

-- it has at most so many results, and needs no constant of the function
abbrev Gives : ℕ → Instruction Name Name → Type 0
Gives n instruction = (length (result_types instruction.operation instruction.controlling) ≤ n) × (constants_for instruction.operation ≡ 0)

then_few : (given : List GivenEntry) (instruction : Instruction Name Name) (n : ℕ) (script : Script) (values instructions more : ℕ) → Gives n instruction → n + values ≤ more
    → Few script (line_makes values instructions 0 0) → Few (building_with given instruction ∷ script) (line_makes more (suc instructions) 0 0)
then_few given instruction n script values instructions more gives enough few Values = let rest = few Values in let most = gives.0 in omega (arith, rest, most, enough)
then_few given instruction n script values instructions more gives enough few Instructions = let rest = few Instructions in omega (arith, rest)
then_few given instruction n script values instructions more gives enough few Constants = let rest = few Constants in let none = gives.1 in omega (arith, rest, none)
then_few given instruction n script values instructions more gives enough few table = let rest = few table in omega (arith, rest)

-- instructions in a line, each with at most one result
code_few : (given : List GivenEntry) (code : List (Instruction Name Name)) (last : Instruction Name Name) → AllByRecursion (Gives 1) code → Gives 1 last
    → Few (map (building_with given) code ++ building_with given last ∷ []) (line_makes (suc (length code)) (suc (length code)) 0 0)
code_few given [] last each one = then_few given last 1 [] 0 0 1 one (omega arith) (none_few (line_makes 0 0 0 0))
code_few given (first ∷ code) last each one =
    let n = suc (length code) in
    then_few given first 1 (map (building_with given) code ++ building_with given last ∷ []) n n (suc n) each.0 (omega arith) (code_few given code last each.1 one)

-- LOADS AND STORES --------------------------------------------------------------------------------------------------------

stores_few : (flags : MemFlagsShape) (ty : «Type») (bytes : ℕ) (target : Name) (number : ℕ) (names : List Name)
    → Few (map building (store_instructions flags ty bytes target number names)) (line_makes 0 (length names) 0 0)
stores_few flags ty bytes target number [] = none_few (line_makes 0 0 0 0)
stores_few flags ty bytes target number (name ∷ names) =
    then_few [] (doing (Store flags (pos (number * bytes))) ty (name ∷ target ∷ [])) 0 (map building (store_instructions flags ty bytes target (suc number) names))
    0 (length names) 0 (omega arith, refl) (omega arith) (stores_few flags ty bytes target (suc number) names)

-- in front of other instructions
loads_few : (flags : MemFlagsShape) (ty : «Type») (bytes : ℕ) (source : Name) (number count : ℕ) (more : List (Instruction Name Name)) (n : ℕ)
    → Few (map building more) (line_makes 0 n 0 0) → Few (map building (load_instructions flags ty bytes source number count ++ more)) (line_makes count (count + n) 0 0)
loads_few flags ty bytes source number zero more n few = subst (λ m. Few (map building more) (line_makes 0 m 0 0)) (omega arith) few
loads_few flags ty bytes source number (suc count) more n few =
    subst (λ m. Few (map building (load_instructions flags ty bytes source number (suc count) ++ more)) (line_makes (suc count) m 0 0)) (omega arith)
    (then_few [] (doing (Load flags (pos (number * bytes))) ty (source ∷ [])) 1 (map building (load_instructions flags ty bytes source (suc number) count ++ more))
    count (count + n) (suc count) (omega arith, refl) (omega arith) (loads_few flags ty bytes source (suc number) count more n few))

length-pieces : (place count : ℕ) → length (piece_names place count) ≡ count
length-pieces place zero = refl
length-pieces place (suc count) = ap suc (length-pieces (suc place) count)

copy_few : (copy : CopyShape) (ty : «Type») (target source : Name) (place count : ℕ) → Few (map building (copy_instructions copy ty target source place count)) (copy_makes count)
copy_few copy ty target source place count =
    let stores = store_instructions (copy_flags copy) ty (access_size copy.size) target 0 (piece_names place count) in
    loads_few (copy_flags copy) ty (access_size copy.size) source 0 count stores count
    (subst (λ n. Few (map building stores) (line_makes 0 n 0 0)) (length-pieces place count)
    (stores_few (copy_flags copy) ty (access_size copy.size) target 0 (piece_names place count)))

fill_few : (fill : FillShape) (ty : «Type») (filling : ℤ) (target : Name) (place count : ℕ) → Few (map building (fill_instructions fill ty filling target place count)) (fill_makes count)
fill_few fill ty filling target place count =
    let names = replicate count (answer_of place 1) in
    let stores = map building (store_instructions (fill_flags fill) ty (access_size fill.size) target 0 names) in
    then_few [] (computing (Iconst filling) ty []) 1 stores 0 count 1 (omega arith, refl) (omega arith)
    (subst (λ n. Few stores (line_makes 0 n 0 0)) (length-replicate count (answer_of place 1)) (stores_few (fill_flags fill) ty (access_size fill.size) target 0 names))

-- CALLS OF THE C LIBRARY --------------------------------------------------------------------------------------------------

by_call_few : (config : TargetFrontendConfig) (callee : LibCall) (tables : TableLists) (code : List (Instruction Name Name)) (last : Instruction Name Name)
    → length code ≤ 3 → AllByRecursion (Gives 1) code → Gives 1 last → Few (by_call config callee tables code last) library_makes
by_call_few config callee tables code last three each one table = at table (code_few (imported tables) code last each one table)
  where
    at : (table : Table) → made_by_script (map (building_with (imported tables)) code ++ building_with (imported tables) last ∷ []) table ≤ line_makes (suc (length code)) (suc (length code)) 0 0 table
        → made_by_script (by_call config callee tables code last) table ≤ library_makes table
    at Values few = omega (arith, three, few)
    at Instructions few = omega (arith, three, few)
    at _ few = omega (arith, few)

call_gives : (config : TargetFrontendConfig) (callee : LibCall) (first second size : Name) → Gives 1 (calling callee (library_signature config callee) first second size)
call_gives config Memcpy first second size = (omega arith, refl)
call_gives config Memmove first second size = (omega arith, refl)
call_gives config Memset first second size = (omega arith, refl)
call_gives config Memcmp first second size = (omega arith, refl)

sized_few : (config : TargetFrontendConfig) (callee : LibCall) (tables : TableLists) (place : ℕ) (first second size : Name) → Few (sized_calls config callee tables place first second size) library_makes
sized_few config Memset tables place target byte size =
    by_call_few config Memset tables (set_first byte) (set_last (library_signature config Memset) (behind_imports place) target size) (omega arith) ((omega arith, refl), tt)
    (call_gives config Memset target (answer_of (behind_imports place) 1) size)
sized_few config callee tables place first second size =
    by_call_few config callee tables [] (calling callee (library_signature config callee) first second size) (omega arith) tt (call_gives config callee first second size)

-- THE HELPERS -------------------------------------------------------------------------------------------------------------

-- by the plan of a copy or a fill
moved_few : (plan : MovePlan) (pieces : Accesses → Script) (call : Script) (most : (count : ℕ) → Table → ℕ)
    → ((accesses : Accesses) → Few (pieces accesses) (most accesses.count)) → Few call library_makes → Few (moved_by plan pieces call) (move_makes plan most)
moved_few move.Nothing pieces call most inline called = none_few (line_makes 0 0 0 0)
moved_few (move.Inline accesses) pieces call most inline called = inline accesses
moved_few move.LibraryCall pieces call most inline called = called

copy_calls_few : (config : TargetFrontendConfig) (copy : CopyShape) (tables : TableLists) (place : ℕ) (target source : Name)
    → Few (copy_calls config copy tables place target source) (move_makes (move_plan copy.size) copy_makes)
copy_calls_few config copy tables place target source =
    let callee = copying_function copy.no_overlap in
    let first = copy_first (pointer_type_of config.pointer_width) (size_constant copy.size) in
    let last = copy_last copy (library_signature config callee) (behind_imports place) target source in
    moved_few (move_plan copy.size) (λ accesses. map building (copy_instructions copy accesses.ty target source place accesses.count)) (by_call config callee tables first last) copy_makes
    (λ accesses. copy_few copy accesses.ty target source place accesses.count)
    (by_call_few config callee tables first last (omega arith) ((omega arith, refl), tt) (call_gives config callee target source (answer_of (behind_imports place) 1)))

fill_calls_few : (config : TargetFrontendConfig) (fill : FillShape) (filling : ℤ) (tables : TableLists) (place : ℕ) (target : Name)
    → Few (fill_calls config fill filling tables place target) (move_makes (move_plan fill.size) fill_makes)
fill_calls_few config fill filling tables place target =
    let p = behind_imports place in
    let first = fill_first (pointer_type_of config.pointer_width) (pos fill.byte) (size_constant fill.size) p in
    let last = fill_last (library_signature config Memset) p target in
    moved_few (move_plan fill.size) (λ accesses. map building (fill_instructions fill accesses.ty filling target place accesses.count)) (by_call config Memset tables first last) fill_makes
    (λ accesses. fill_few fill accesses.ty filling target place accesses.count)
    (by_call_few config Memset tables first last (omega arith) ((omega arith, refl), ((omega arith, refl), ((omega arith, refl), tt))) (call_gives config Memset target (answer_of (suc (suc p)) 1) (answer_of (suc p) 1)))

-- by the plan of a comparison
compared_few : (plan : ComparePlan) (constant : ℤ → Script) (loads : «Type» → Script) (call : Script)
    → ((number : ℤ) → Few (constant number) (line_makes 1 1 0 0)) → ((ty : «Type») → Few (loads ty) (line_makes 3 3 0 0)) → Few call library_makes
    → Few (compared_by plan constant loads call) (compare_makes plan)
compared_few (compare.Constant number) constant loads call one three called = one number
compared_few (compare.Inline ty) constant loads call one three called = three ty
compared_few (compare.LibraryCall condition) constant loads call one three called = called

compare_calls_few : (config : TargetFrontendConfig) (compared : CompareShape) (tables : TableLists) (place : ℕ) (left right : Name)
    → Few (compare_calls config compared tables place left right) (compare_makes (compare_plan compared.condition compared.size))
compare_calls_few config compared tables place left right =
    let p = behind_imports place in
    let first = compare_first (library_signature config Memcmp) (pointer_type_of config.pointer_width) (size_constant compared.size) p left right in
    let last = compare_last compared p in
    compared_few (compare_plan compared.condition compared.size) (λ number. building (computing (Iconst number) i8 []) ∷ [])
    (λ ty. map building (loads_first compared ty left right) ++ building (loads_last compared ty place) ∷ []) (by_call config Memcmp tables first last)
    (λ number. code_few [] [] (computing (Iconst number) i8 []) tt (omega arith, refl))
    (λ ty. code_few [] (loads_first compared ty left right) (loads_last compared ty place) ((omega arith, refl), ((omega arith, refl), tt)) (omega arith, refl))
    (by_call_few config Memcmp tables first last (omega arith) ((omega arith, refl), (call_gives config Memcmp left right (answer_of p 1), ((omega arith, refl), tt))) (omega arith, refl))

-- The plain calls of a memory helper make at most what is said of it.
pub helper_few : (config : TargetFrontendConfig) (operation : ByteOperation) (filling : ℤ) (tables : TableLists) (place : ℕ) (names : List Name) (table : Table)
    → made_by_script (helper_calls config operation filling tables place names) table ≤ helper_makes config operation table
helper_few config (Copy copy) filling tables place (target ∷ source ∷ []) = copy_calls_few config copy tables place target source
helper_few config (Fill fill) filling tables place (target ∷ []) = fill_calls_few config fill filling tables place target
helper_few config (CompareBytes compared) filling tables place (left ∷ right ∷ []) = compare_calls_few config compared tables place left right
helper_few config (CallLibrary callee) filling tables place (first ∷ second ∷ size ∷ []) = sized_few config callee tables place first second size
helper_few config operation filling tables place names = none_few (helper_makes config operation)
