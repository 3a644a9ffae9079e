-- What the steps of memory helpers make of a builder. Own.
use Rattle.std.specs.Prelude.{◌≡◌, ◌<◌, ◌≤◌, ◌&&◌, nat_le, ℕ, ℤ, pos, suc, List, [], ◌∷◌, ◌++◌, drop, length, map, replicate, take, Result, IfOk, IsTrue}
use Rattle.std.specs.List.{AllByRecursion}
use Rattle.clif_types.specs.MemFlags.{MemFlagsShape}
use Rattle.clif_types.specs.Signature.{SignatureShape}
use Rattle.clif_types.specs.Target.{pointer_type_of}
use Rattle.clif_types.specs.Types.{is_int}
use Rattle.clif_types.specs.declared.condcodes.IntCC.{IntCC}
use Rattle.clif_types.specs.declared.error.BuildError.{BuildError}
use Rattle.clif_types.specs.declared.extname.ExternalName.TheVariants as name
use Rattle.clif_types.specs.declared.libcall.LibCall.{LibCall}
use Rattle.clif_types.specs.declared.libcall.LibCall.TheVariants.{Memcmp, Memset}
use Rattle.clif_types.specs.declared.target.TargetFrontendConfig.{TargetFrontendConfig}
use Rattle.clif_types.specs.declared.types.«Type».{«Type»}
use Rattle.clif_types.specs.declared.types.«Type».TheVariants as type
use Rattle.clif_instructions.specs.Instruction.{AFunctionRef}
use Rattle.clif_tables.specs.Callees.{function_at, signature_at, types_of}
use Rattle.clif_tables.specs.Lists.{TableLists}
use Rattle.clif_access_plans.specs.Constants.{RepeatsByte}
use Rattle.clif_access_plans.specs.Plans.{IsAccess}
use Rattle.clif_access_plans.specs.declared.moving.Accesses.{Accesses}
use Rattle.clif_meaning.specs.Instruction.{Call, Compare, Iconst, Load}
use Rattle.clif_meaning.specs.Name.{Name, answer_of}
use Rattle.clif_meaning.specs.Request.{Build, Imported, Request, Script}
use Rattle.clif_expansion.specs.Constants.{computing}
use Rattle.clif_expansion.specs.Emission.{building, importing}
use Rattle.clif_builder.specs.declared.builder.FunctionBuilder.{FunctionBuilder}
use Rattle.clif_helper_calls.specs.Codes.{doing, flags_where}
use Rattle.clif_helper_calls.specs.FillStanding.{fill_first, fill_last, set_first, set_last}
use Rattle.clif_helper_calls.specs.KnownStanding.{compare_first}
use Rattle.clif_helper_calls.specs.LibraryCodes.{calling, i8, i32}
use Rattle.clif_helper_calls.specs.PieceStanding.{load_instructions, piece_names, store_instructions}
use Rattle.clif_memory_helpers.specs.declared.accesses.Side.{Side}
use Rattle.clif_memory_helpers.specs.Helpers.{behind_imports, by_call, library_entries, library_signature, size_constant}
use Rattle.clif_memory_helpers.specs.Lines.{HasType, Makes, Requests, Results, last_result, no_results, no_values, nth, one_value}

-- calls in a line, which answer nothing
abbrev pub MakesLine : {R : Type 0} → List ℕ → Requests → FunctionBuilder R → FunctionBuilder R → Result (Unit {0}) BuildError → Type 0
MakesLine operands made old new answer = Makes operands made no_results no_values old new answer

-- LOADS AND STORES --------------------------------------------------------------------------------------------------------

-- accesses that a plan makes: at most four, of an integer type
pub record ArePlanned (accesses : Accesses) : Type 0 where
  pub access : IsAccess accesses.ty accesses.bytes
  pub integer : IsTrue (is_int accesses.ty)
  pub few : accesses.count ≤ 4

-- loads of so many pieces, from the operand on
abbrev pub loads : Accesses → MemFlagsShape → (count : ℕ) → Requests
loads accesses flags count place names = map building (load_instructions flags accesses.ty accesses.bytes (nth names 0) 0 count)

-- stores of the first so many of the operands behind the first one, from that one on
abbrev pub stores : Accesses → MemFlagsShape → (count : ℕ) → Requests
stores accesses flags count place names = map building (store_instructions flags accesses.ty accesses.bytes (nth names 0) 0 (take count (drop 1 names)))

abbrev pub StoresPieces : {R : Type 0} → Accesses → MemFlagsShape → (target : ℕ) → List ℕ → FunctionBuilder R → FunctionBuilder R → Result (Unit {0}) BuildError → Type 0
StoresPieces accesses flags target values old new answer = MakesLine (target ∷ values) (stores accesses flags accesses.count) old new answer

abbrev pub AllTyped : {R : Type 0} → FunctionBuilder R → «Type» → List ℕ → Type 0
AllTyped b ty values = AllByRecursion (λ value. HasType b value ty) values

-- So many pieces are loaded; they stand at the front of a list of four.
pub record LoadsPieces {R : Type 0} (accesses : Accesses) (flags : MemFlagsShape) (source count : ℕ) (old new : FunctionBuilder R) (answer : Result (List ℕ) BuildError) : Type 0 where
  pub many : IfOk answer (λ loaded. length loaded ≡ 4)
  pub typed : IfOk answer (λ loaded. AllTyped new accesses.ty (take count loaded))
  pub made : Makes (source ∷ []) (loads accesses flags count) (λ place names. piece_names place count) (λ loaded. take count loaded) old new answer

-- a copy from the second operand to the first one
abbrev pub copied : Accesses → MemFlagsShape → Requests
copied accesses flags place names =
    map building (load_instructions flags accesses.ty accesses.bytes (nth names 1) 0 accesses.count
    ++ store_instructions flags accesses.ty accesses.bytes (nth names 0) 0 (piece_names place accesses.count))

abbrev pub CopiesPieces : {R : Type 0} → Accesses → MemFlagsShape → (target source : ℕ) → FunctionBuilder R → FunctionBuilder R → Result (Unit {0}) BuildError → Type 0
CopiesPieces accesses flags target source old new answer = MakesLine (target ∷ source ∷ []) (copied accesses flags) old new answer

-- the flags of a copy's accesses, which are aligned where both addresses are
abbrev pub copy_flags : MemFlagsShape → Accesses → (target_alignment source_alignment : ℕ) → MemFlagsShape
copy_flags flags accesses target source = flags_where flags (nat_le accesses.bytes target && nat_le accesses.bytes source)

-- a fill with a constant
abbrev pub filled : Accesses → MemFlagsShape → ℤ → Requests
filled accesses flags filling place names =
    map building (computing (Iconst filling) accesses.ty []
    ∷ store_instructions flags accesses.ty accesses.bytes (nth names 0) 0 (replicate accesses.count (answer_of place 1)))

pub record FillsPieces {R : Type 0} (accesses : Accesses) (flags : MemFlagsShape) (target byte : ℕ) (old new : FunctionBuilder R) (answer : Result (Unit {0}) BuildError) : Type 0 where
  pub filling : ℤ
  pub repeats : RepeatsByte accesses.ty byte filling
  pub made : Makes (target ∷ []) (filled accesses flags filling) no_results no_values old new answer

-- two loads, and the comparison of what they give
abbrev pub compared : IntCC → «Type» → (left right : MemFlagsShape) → Requests
compared condition ty left right place names =
    building (doing (Load left (pos 0)) ty (nth names 0 ∷ [])) ∷ building (doing (Load right (pos 0)) ty (nth names 1 ∷ []))
    ∷ building (computing (Compare condition) ty (answer_of place 1 ∷ answer_of (suc place) 1 ∷ [])) ∷ []

-- the name of the third result
abbrev pub third_result : Results
third_result place names = answer_of (suc (suc place)) 1 ∷ []

-- and of the first
abbrev pub first_result : Results
first_result place names = answer_of place 1 ∷ []

-- A value of this type is made.
pub record MakesTyped {R : Type 0} (ty : «Type») (operands : List ℕ) (requests : Requests) (results : Results) (old new : FunctionBuilder R) (answer : Result ℕ BuildError) : Type 0 where
  pub typed : IfOk answer (λ value. HasType new value ty)
  pub made : Makes operands requests results one_value old new answer

-- the result of the last call
abbrev pub MakesLast : {R : Type 0} → «Type» → List ℕ → Requests → FunctionBuilder R → FunctionBuilder R → Result ℕ BuildError → Type 0
MakesLast ty operands made old new answer = MakesTyped ty operands made (last_result made) old new answer

-- what is loaded on both sides is compared
abbrev pub ComparesLoads : {R : Type 0} → IntCC → «Type» → (left right : Side) → FunctionBuilder R → FunctionBuilder R → Result ℕ BuildError → Type 0
ComparesLoads condition ty left right old new answer =
    MakesTyped i8 (left.address ∷ right.address ∷ []) (compared condition ty left.flags right.flags) third_result old new answer

-- THE C LIBRARY -----------------------------------------------------------------------------------------------------------

-- the tables have this function under this number
pub record KnowsFunction (tables : TableLists) (callee : LibCall) (signature : SignatureShape) (function : ℕ) : Type 0 where
  pub exists : function < length tables.functions
  pub name_is : (function_at tables function).name ≡ name.LibCall callee
  pub signature_is : signature_at tables (function_at tables function).signature ≡ signature

-- the calls that import a function of the C library
abbrev pub imports : TargetFrontendConfig → LibCall → TableLists → Script
imports config callee tables = importing (library_entries config callee tables)

-- A function of the C library is imported.
pub record ImportsFunction {R : Type 0} (config : TargetFrontendConfig) (callee : LibCall) (old new : FunctionBuilder R) (answer : Result ℕ BuildError) : Type 0 where
  pub number : IfOk answer (λ function. function ≡ length old.func.now.tables.functions)
  pub knows : IfOk answer (KnowsFunction new.func.now.tables callee (library_signature config callee))
  pub made : Makes [] (λ place names. imports config callee old.func.now.tables) no_results (λ function. []) old new answer

-- the call of a function that the tables have
abbrev pub call_request : TableLists → (function : ℕ) → List Name → Request
call_request tables function names =
    Build (Imported (AFunctionRef function) ∷ []) (record {
      operation = Call (function_at tables function).name (signature_at tables (function_at tables function).signature);
      controlling = type.Invalid;
      operands = names;
      contexts = [];
      edges = [];
    })

abbrev pub calls_function : TableLists → (function : ℕ) → Requests
calls_function tables function place names = call_request tables function names ∷ []

-- a call of a function that the builder knows
abbrev pub CallsFunction : {R : Type 0} (function : ℕ) → List ℕ → FunctionBuilder R → FunctionBuilder R → Result (Unit {0}) BuildError → Type 0
CallsFunction function values old new answer = MakesLine values (calls_function old.func.now.tables function) old new answer

-- for its one result
abbrev pub CallsForNumber : {R : Type 0} (function : ℕ) → List ℕ → FunctionBuilder R → FunctionBuilder R → Result ℕ BuildError → Type 0
CallsForNumber function values old new answer = MakesTyped i32 values (calls_function old.func.now.tables function) first_result old new answer

-- one value is returned
abbrev pub GivesOne : TableLists → (function : ℕ) → Type 0
GivesOne tables function = length (signature_at tables (function_at tables function).signature).returns ≡ 1

-- it gives one I32
abbrev pub GivesNumber : TableLists → (function : ℕ) → Type 0
GivesNumber tables function = types_of (signature_at tables (function_at tables function).signature).returns ≡ i32 ∷ []

-- on a size that is a value
abbrev pub copies_sized : TargetFrontendConfig → LibCall → TableLists → Requests
copies_sized config callee tables place names =
    by_call config callee tables [] (calling callee (library_signature config callee) (nth names 0) (nth names 1) (nth names 2))

abbrev pub fills_sized : TargetFrontendConfig → TableLists → Requests
fills_sized config tables place names =
    by_call config Memset tables (set_first (nth names 1)) (set_last (library_signature config Memset) (behind_imports place) (nth names 0) (nth names 2))

-- on a size that is known
abbrev pub copies_known : TargetFrontendConfig → LibCall → (size : ℕ) → TableLists → Requests
copies_known config callee size tables place names =
    by_call config callee tables (computing (Iconst (size_constant size)) (pointer_type_of config.pointer_width) [] ∷ [])
    (calling callee (library_signature config callee) (nth names 0) (nth names 1) (answer_of (behind_imports place) 1))

abbrev pub fills_known : TargetFrontendConfig → (byte size : ℕ) → TableLists → Requests
fills_known config byte size tables place names =
    by_call config Memset tables (fill_first (pointer_type_of config.pointer_width) (pos byte) (size_constant size) (behind_imports place))
    (fill_last (library_signature config Memset) (behind_imports place) (nth names 0))

abbrev pub compares_known : TargetFrontendConfig → IntCC → (size : ℕ) → TableLists → Requests
compares_known config condition size tables place names =
    by_call config Memcmp tables
    (compare_first (library_signature config Memcmp) (pointer_type_of config.pointer_width) (size_constant size) (behind_imports place) (nth names 0) (nth names 1))
    (computing (Compare condition) i32 (answer_of (suc (behind_imports place)) 1 ∷ answer_of (suc (suc (behind_imports place))) 1 ∷ []))

-- WHAT EACH STEP MAKES ----------------------------------------------------------------------------------------------------

abbrev pub CopiesSized : {R : Type 0} → TargetFrontendConfig → LibCall → List ℕ → FunctionBuilder R → FunctionBuilder R → Result (Unit {0}) BuildError → Type 0
CopiesSized config callee operands old new answer = MakesLine operands (copies_sized config callee old.func.now.tables) old new answer

abbrev pub CopiesKnown : {R : Type 0} → TargetFrontendConfig → LibCall → (size : ℕ) → List ℕ → FunctionBuilder R → FunctionBuilder R → Result (Unit {0}) BuildError → Type 0
CopiesKnown config callee size operands old new answer = MakesLine operands (copies_known config callee size old.func.now.tables) old new answer

abbrev pub FillsSized : {R : Type 0} → TargetFrontendConfig → List ℕ → FunctionBuilder R → FunctionBuilder R → Result (Unit {0}) BuildError → Type 0
FillsSized config operands old new answer = MakesLine operands (fills_sized config old.func.now.tables) old new answer

abbrev pub FillsKnown : {R : Type 0} → TargetFrontendConfig → (byte size : ℕ) → List ℕ → FunctionBuilder R → FunctionBuilder R → Result (Unit {0}) BuildError → Type 0
FillsKnown config byte size operands old new answer = MakesLine operands (fills_known config byte size old.func.now.tables) old new answer

abbrev pub ComparesSized : {R : Type 0} → TargetFrontendConfig → List ℕ → FunctionBuilder R → FunctionBuilder R → Result ℕ BuildError → Type 0
ComparesSized config operands old new answer = MakesLast i32 operands (copies_sized config Memcmp old.func.now.tables) old new answer

abbrev pub ComparesKnown : {R : Type 0} → TargetFrontendConfig → IntCC → (size : ℕ) → List ℕ → FunctionBuilder R → FunctionBuilder R → Result ℕ BuildError → Type 0
ComparesKnown config condition size operands old new answer = MakesLast i8 operands (compares_known config condition size old.func.now.tables) old new answer
