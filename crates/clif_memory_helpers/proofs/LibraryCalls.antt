-- Calls of functions of the C library: their steps, one behind the other.
use Rattle.std.proofs.Common.{◌≡◌, ◌<◌, ◌≤◌, inl, inr, ◌+◌, ◌-◌, ℕ, ℤ, suc, pos, true, false, Bool, List, [], ◌∷◌, ◌++◌, length, map, refl, sym, ◌∙◌, ap, ap₂, subst, arith, Some}
use Rattle.std.specs.Prelude.{slice_get, slice_index_or, slice_index, if◌then◌else◌, IfOk, Result, Ok, Err}
use Rattle.std.specs.List.{AllZip}
use Rattle.std.specs.Result.{IsErrAnd}
use Rattle.std.proofs.lemmas.List.{length-append, length-map}
use Rattle.clif_opcodes.specs.declared.opcodes.ConvertOpcode.TheVariants.{Uextend}
use Rattle.clif_types.specs.Signature.{SignatureShape}
use Rattle.clif_types.specs.Target.{pointer_type_of}
use Rattle.clif_types.specs.declared.condcodes.IntCC.{IntCC}
use Rattle.clif_types.specs.declared.error.BuildError.{BuildError}
use Rattle.clif_types.specs.declared.extfunc.AbiParam.{AbiParam}
use Rattle.clif_types.specs.declared.extfunc.ExtFuncData.{ExtFuncData}
use Rattle.clif_types.specs.declared.extname.ExternalName.{ExternalName}
use Rattle.clif_types.specs.declared.libcall.LibCall.{LibCall}
use Rattle.clif_types.specs.declared.libcall.LibCall.TheVariants.{Memcmp, Memset}
use Rattle.clif_types.specs.declared.target.TargetFrontendConfig.{TargetFrontendConfig}
use Rattle.clif_types.specs.declared.types.«Type».{«Type»}
use Rattle.clif_types.specs.declared.types.«Type».TheVariants.{Invalid}
use Rattle.clif_instructions.specs.Instruction.{AFunctionRef}
use Rattle.clif_instructions.specs.Members.{stands_in}
use Rattle.clif_instructions.specs.declared.instructions.InstructionData.{InstructionData}
use Rattle.clif_tables.specs.Callees.{count_of_results, function_at, signature_at, no_function, no_signature}
use Rattle.clif_tables.specs.Entries.{AFunction, ASignature}
use Rattle.clif_tables.specs.Lists.{TableLists}
use Rattle.clif_inst_builder.specs.Shapes as shapes
use Rattle.clif_ir.specs.Body.{Body, inst_at, value_at}
use Rattle.clif_ir.specs.Changes.{inserted_in, with_layout}
use Rattle.clif_meaning.specs.Instruction.{Call, Compare, Convert, Iconst}
use Rattle.clif_meaning.specs.Ledger.{AValue}
use Rattle.clif_meaning.specs.Name.{Name, answer_of}
use Rattle.clif_meaning.specs.Request.{AnsweredCall, Build, Imported, MakeEntry, Request, Script}
use Rattle.clif_meaning.specs.Sizes.{Values, made_by, made_by_script}
use Rattle.clif_builder.specs.declared.builder.FunctionBuilder.{FunctionBuilder}
use Rattle.clif_builder.specs.Adding.{AddsAtMost}
use Rattle.clif_builder.specs.Builder.{Appends, HasCurrent}
use Rattle.clif_builder.specs.Built.{Builds, BuildsValue, numbers_of}
use Rattle.clif_builder.specs.Calls.{answered}
use Rattle.clif_builder.specs.Entries.{MakesEntry}
use Rattle.clif_builder.specs.Ledger.{NamesValue, NamesValues}
use Rattle.clif_builder.specs.LedgerLaws.{AsksForShape, LedgerIsReadByNumber, RequestsAskForTheirShapes}
use Rattle.clif_builder.specs.StandsFor.{StandsFor}
use Rattle.clif_builder.proofs.Adding.{adds_ok}
use Rattle.clif_builder.proofs.Framed.{appended-typed}
use Rattle.clif_builder.proofs.Growing.{at_current, current_results}
use Rattle.clif_constant_calls.proofs.Standing.{asks_at}
use Rattle.clif_expansion.specs.Constants.{computing}
use Rattle.clif_expansion.specs.Emission.{building, building_with}
use Rattle.clif_helper_calls.specs.LibraryCodes.{calling, i8, i32}
use Rattle.clif_memory_helpers.specs.Helpers.{behind_imports, imported, library_function, library_signature, size_constant}
use Rattle.clif_memory_helpers.specs.Lines.{HasType, InLine, Makes, Requests, Results, last_result, no_results, no_values, nth, one_value}
use Rattle.clif_memory_helpers.specs.Steps.{GivesNumber, GivesOne, ImportsFunction, KnowsFunction, MakesTyped, call_request, calls_function, compares_known, copies_known, copies_sized, fills_known, fills_sized, imports}
use Rattle.clif_memory_helpers.proofs.Chains.{entry_makes, inst_makes, makes_as, makes_failed, makes_from, makes_then, named_last, nth_named, value_makes}
use Rattle.clif_memory_helpers.proofs.Lines.{IsImport, inst_line, line_ok}
use Rattle.clif_memory_helpers.proofs.Loads.{compare_made, iconst_made, one_name, two_names}

-- TABLES ------------------------------------------------------------------------------------------------------------------

last : {X : Type 0} (xs : List X) (x d : X) → slice_index_or (xs ++ x ∷ []) (length xs) d ≡ x
last [] x d = refl
last (y ∷ xs) x d = last xs x d

tables_inserted : (f : Body) (block : ℕ) → (inserted_in f block).tables ≡ f.tables
tables_inserted f block = by (stands_in block f.layout)
  where
    by : (b : Bool) → (if b then f else with_layout f block).tables ≡ f.tables
    by true = refl
    by false = refl

-- an instruction changes no table
pub tables_kept : {R : Type 0} (old new : FunctionBuilder R) (shape : InstructionData) (ty : «Type») (v : ℕ) → HasCurrent old → BuildsValue old new shape ty (Ok v) → new.func.now.tables ≡ old.func.now.tables
tables_kept old new shape ty v current builds =
    let appends = at_current old (λ block. Appends old new block shape ty (length old.func.now.insts) × (v ≡ length old.func.now.values)) current builds.appends in
    ap (λ (f : Body). f.tables) appends.0.function ∙ tables_inserted old.func.now current.0

-- a constant, as other words say it
pub const_is : {R : Type 0} (old new : FunctionBuilder R) (imm held : ℤ) (ty other : «Type») (r : Result ℕ BuildError) → imm ≡ held → ty ≡ other → BuildsValue old new (shapes.unary_imm imm) ty r
    → BuildsValue old new (shapes.unary_imm held) other r
const_is old new imm held ty other r same is built =
    subst (λ (z : ℤ). BuildsValue old new (shapes.unary_imm z) other r) same (subst (λ (t : «Type»). BuildsValue old new (shapes.unary_imm imm) t r) is built)

-- A call of a function that returns one value has one result.
pub one_result : (tables : TableLists) (function : ℕ) (args : List ℕ) → GivesOne tables function → count_of_results tables (shapes.call function args) ≤ 1
one_result tables function args gives = omega (arith, gives)

-- as many as the call says
call_results : (tables : TableLists) (function : ℕ) (args : List ℕ) (names : List Name) → count_of_results tables (shapes.call function args) ≤ made_by (call_request tables function names) Values
call_results tables function args names =
    let many = length-map (signature_at tables (function_at tables function).signature).returns (λ (param : AbiParam). param.value_type) in omega (arith, many)

pub gives_one : (tables : TableLists) (function : ℕ) → GivesNumber tables function → GivesOne tables function
gives_one tables function gives = sym (length-map (signature_at tables (function_at tables function).signature).returns _) ∙ ap length gives

-- IMPORTS -----------------------------------------------------------------------------------------------------------------

module _ (reads : LedgerIsReadByNumber) (config : TargetFrontendConfig) (callee : LibCall) where
  abbrev signature : SignatureShape
  signature = library_signature config callee

  pub imports_signature : IsImport (ASignature signature)
  imports_signature = record { imports = λ t. refl; full = λ t most. inl most }

  imports_function : (s : ℕ) → IsImport (AFunction (library_function callee s))
  imports_function s = record { imports = λ t. refl; full = λ t most. inr most }

  pub imports_made : {R : Type 0} (old mid new : FunctionBuilder R) (s : ℕ) (answer : Result ℕ BuildError) → HasCurrent old → MakesEntry (ASignature signature) old mid (Ok s)
      → MakesEntry (AFunction (library_function callee s)) mid new answer → ImportsFunction config callee old new answer
  imports_made old mid new s answer current first next = record {
    number = number_is answer next.number;
    knows = known answer next.number next.function;
    made = makes_as old new [] _ _ (λ number. []) answer
        (makes_then reads old mid new [] _ _ (λ number. []) s (entry_makes (ASignature signature) old mid (Ok s) imports_signature current first) _ _ (λ number. []) (λ place names. refl) answer
        (entry_makes (AFunction (library_function callee s)) mid new answer (imports_function s) (first.current current) next))
        (λ place names. imports config callee old.func.now.tables) no_results
        (λ place names long. (ap (λ (k : ℕ). MakeEntry (ASignature signature) ∷ MakeEntry (AFunction (library_function callee k)) ∷ []) first.number, refl));
  }
    where
      tables : TableLists
      tables = old.func.now.tables

      mid_tables : mid.func.now.tables ≡ record tables { signatures = tables.signatures ++ signature ∷ [] }
      mid_tables = ap (λ (f : Body). f.tables) first.function

      number_is : (r : Result ℕ BuildError) → IfOk r (λ function. function ≡ length mid.func.now.tables.functions) → IfOk r (λ function. function ≡ length tables.functions)
      number_is (Err e) is = tt
      number_is (Ok function) is = is ∙ ap (λ (t : TableLists). length t.functions) mid_tables

      known : (r : Result ℕ BuildError) → IfOk r (λ function. function ≡ length mid.func.now.tables.functions)
          → IfOk r (λ _. new.func.now ≡ record mid.func.now { tables = record mid.func.now.tables { functions = mid.func.now.tables.functions ++ library_function callee s ∷ [] } })
          → IfOk r (KnowsFunction new.func.now.tables callee signature)
      known (Err e) number function = tt
      known (Ok k) number function =
          let functions : new.func.now.tables.functions ≡ mid.func.now.tables.functions ++ library_function callee s ∷ [] = ap (λ (f : Body). f.tables.functions) function in
          let signatures : new.func.now.tables.signatures ≡ tables.signatures ++ signature ∷ [] = ap (λ (f : Body). f.tables.signatures) function ∙ ap (λ (t : TableLists). t.signatures) mid_tables in
          let found : function_at new.func.now.tables k ≡ library_function callee s =
          ap (λ (fs : List ExtFuncData). slice_index_or fs k no_function) functions
          ∙ ap (λ (j : ℕ). slice_index_or (mid.func.now.tables.functions ++ library_function callee s ∷ []) j no_function) number
          ∙ last mid.func.now.tables.functions (library_function callee s) no_function in
          record {
            exists = (let more = ap (λ (fs : List ExtFuncData). length fs) functions in let long = length-append mid.func.now.tables.functions (library_function callee s ∷ []) in omega (arith, number, more, long));
            name_is = ap (λ (x : ExtFuncData). x.name) found;
            signature_is =
                ap (λ (x : ExtFuncData). signature_at new.func.now.tables x.signature) found
                ∙ ap (λ (ss : List SignatureShape). slice_index_or ss s no_signature) signatures
                ∙ ap (λ (j : ℕ). slice_index_or (tables.signatures ++ signature ∷ []) j no_signature) first.number
                ∙ last tables.signatures signature no_signature;
          }

  -- it failed
  pub imports_failed : {A : Type 0} {R : Type 0} (old new : FunctionBuilder R) (r : Result ℕ BuildError) (e : BuildError) → InLine {A = A} old new (Err e)
      → AddsAtMost {A = A} (made_by_script (imports config callee old.func.now.tables)) old new (Err e) → IsErrAnd r (λ y. y ≡ e) → ImportsFunction config callee old new r
  imports_failed old new (Ok function) e line adds is = absurd is
  imports_failed {A} old new (Err y) e line adds is = record {
    number = tt;
    knows = tt;
    made = makes_failed {A = A} old new [] (λ place names. imports config callee old.func.now.tables) no_results (λ number. []) (Err y) e line (λ place names long. adds) is;
  }

-- the call as it is recorded
pub call_is : (tables before : TableLists) (callee : LibCall) (signature : SignatureShape) (function : ℕ) (a b c : Name) → KnowsFunction tables callee signature function → function ≡ length before.functions
    → call_request tables function (a ∷ b ∷ c ∷ []) ≡ building_with (imported before) (calling callee signature a b c)
call_is tables before callee signature function a b c knows is =
    ap (λ (f : ℕ). Build (Imported (AFunctionRef f) ∷ []) (record {
      operation = Call (function_at tables function).name (signature_at tables (function_at tables function).signature);
      controlling = Invalid;
      operands = a ∷ b ∷ c ∷ [];
      contexts = [];
      edges = [];
    })) is
    ∙ ap₂ (λ (n : ExternalName) (s : SignatureShape). Build (imported before) (record { operation = Call n s; controlling = Invalid; operands = a ∷ b ∷ c ∷ []; contexts = []; edges = [] })) knows.name_is knows.signature_is

-- CALLS -------------------------------------------------------------------------------------------------------------------

module _ (reads : LedgerIsReadByNumber) (asks : RequestsAskForTheirShapes) where
  all_values : (calls : List AnsweredCall) (names : List Name) (values : List ℕ) → AllZip (NamesValue calls) names values → NamesValues calls names values
  all_values calls [] [] named = record { numbers = refl; are_values = tt }
  all_values calls [] (v ∷ values) named = absurd named
  all_values calls (n ∷ names) [] named = absurd named
  all_values calls (n ∷ names) (v ∷ values) named =
      let rest = all_values calls names values named.1 in
      record { numbers = ap₂ (λ o os. o ∷ os) named.0.number rest.numbers; are_values = (named.0.is_value, rest.are_values) }

  call_asked : {R : Type 0} (args : List ℕ) (function : ℕ) (old : FunctionBuilder R) (signature : SignatureShape) (calls : List AnsweredCall) (names : List Name) → StandsFor signature calls old → AllZip (NamesValue calls) names args
      → AsksForShape calls old.func.now (call_request old.func.now.tables function names) (shapes.call function args) Invalid
  call_asked args function old signature calls names stands named =
      subst (λ (t : TableLists). AsksForShape calls old.func.now (call_request t function names) (shapes.call function args) Invalid) stands.ledger.tables
      ((asks_at reads asks signature calls old stands).call_function function names args (all_values calls names args named))

  pub call_made : {R : Type 0} (args : List ℕ) (function : ℕ) (old new : FunctionBuilder R) (answer : Result ℕ BuildError) → HasCurrent old
      → count_of_results old.func.now.tables (shapes.call function args) ≤ 1 → Builds old new (shapes.call function args) Invalid answer
      → Makes args (calls_function old.func.now.tables function) no_results (λ inst. []) old new answer
  call_made args function old new answer current few builds =
      inst_makes args old new (shapes.call function args) Invalid answer current (call_request old.func.now.tables function) refl refl few (call_results old.func.now.tables function args) (λ names. omega arith) (call_asked args function old) builds

  -- how many results a call for its number has
  pub number_is : {R : Type 0} (args : List ℕ) (function inst : ℕ) (old new : FunctionBuilder R) → HasCurrent old → GivesNumber old.func.now.tables function → Builds old new (shapes.call function args) Invalid (Ok inst)
      → (inst_at new.func.now inst).results ≡ length old.func.now.values ∷ []
  number_is args function inst old new current gives builds = current_results old new (shapes.call function args) Invalid i32 inst current builds.appends gives

  -- a call for its number
  pub number_made : {R : Type 0} (args : List ℕ) (function inst v : ℕ) (old new : FunctionBuilder R) → HasCurrent old → GivesNumber old.func.now.tables function
      → Builds old new (shapes.call function args) Invalid (Ok inst) → v ≡ slice_index (inst_at new.func.now inst).results 0 → v < length new.func.now.values
      → MakesTyped i32 args (calls_function old.func.now.tables function) (λ place names. answer_of place 1 ∷ []) old new (Ok v)
  number_made args function inst v old new current gives builds is exists = record {
    typed = (exists, typed);
    made = record {
      most = λ place names long.
          adds_ok (made_by_script (call_request old.func.now.tables function names ∷ [])) old new inst v
          ((call_made args function old new (Ok inst) current (one_result old.func.now.tables function args (gives_one old.func.now.tables function gives)) builds).most place names long);
      line = line_ok old new inst v (inst_line old new (shapes.call function args) Invalid (Ok inst) current refl refl (one_result old.func.now.tables function args (gives_one old.func.now.tables function gives)) builds);
      stands = λ signature calls names stands named.
          let asked = call_asked args function old signature calls names stands named in
          record {
            added = answered (call_request old.func.now.tables function names) (numbers_of new inst) ∷ [];
            asked = refl;
            stands = subst (λ (r : Request). StandsFor signature (calls ++ answered r (numbers_of new inst) ∷ []) new) (sym asked.2) (builds.stands signature calls asked.0 asked.1 stands asked.3);
            named = (
              subst (λ (numbers : List ℕ). NamesValue (calls ++ answered (call_request old.func.now.tables function names) (inst ∷ numbers) ∷ []) (answer_of (length calls) 1) v) (sym (results ∙ ap (λ (k : ℕ). k ∷ []) (sym number)))
                  (named_last calls (call_request old.func.now.tables function names) i32 inst v [] (ap (λ (types : List «Type»). slice_get (map AValue types) 0) gives)),
              tt,
            );
          };
    };
  }
    where
      results : (inst_at new.func.now inst).results ≡ length old.func.now.values ∷ []
      results = number_is args function inst old new current gives builds

      number : v ≡ length old.func.now.values
      number = is ∙ ap (λ (xs : List ℕ). slice_index xs 0) results

      typed : (value_at new.func.now v).ty ≡ i32
      typed = appended-typed _ old.func.now old.ctx.now.parts new.func.now new.ctx.now.parts current.0 (shapes.call function args) Invalid i32 inst v
          (at_current old (λ block. Appends old new block (shapes.call function args) Invalid inst) current builds.appends) gives number

-- CALLS BEHIND IMPORTS ----------------------------------------------------------------------------------------------------

-- what a line is in which a value is made
pub knows_on : {R : Type 0} (old new : FunctionBuilder R) (shape : InstructionData) (ty : «Type») (v : ℕ) (callee : LibCall) (signature : SignatureShape) (function : ℕ) → HasCurrent old → BuildsValue old new shape ty (Ok v)
    → KnowsFunction old.func.now.tables callee signature function → KnowsFunction new.func.now.tables callee signature function
knows_on old new shape ty v callee signature function current builds knows = subst (λ (t : TableLists). KnowsFunction t callee signature function) (sym (tables_kept old new shape ty v current builds)) knows

pub three_names : (P : List Name → Type 0) → ((a b c : Name) → P (a ∷ b ∷ c ∷ [])) → (names : List Name) → length names ≡ 3 → P names
three_names P each [] long = absurd (omega (arith, long))
three_names P each (a ∷ []) long = absurd (omega (arith, long))
three_names P each (a ∷ b ∷ []) long = absurd (omega (arith, long))
three_names P each (a ∷ b ∷ c ∷ []) long = each a b c
three_names P each (a ∷ b ∷ c ∷ d ∷ names) long = absurd (omega (arith, long))

module _ (reads : LedgerIsReadByNumber) (asks : RequestsAskForTheirShapes) (config : TargetFrontendConfig) where
  abbrev pointer : «Type»
  pointer = pointer_type_of config.pointer_width

  -- the imports, on any operands
  imports_on : {R : Type 0} (callee : LibCall) (operands : List ℕ) (old mid : FunctionBuilder R) (f : ℕ) → ImportsFunction config callee old mid (Ok f)
      → Makes operands (λ place names. imports config callee old.func.now.tables) no_results (λ (number : ℕ). []) old mid (Ok f)
  imports_on callee operands old mid f imported =
      makes_from old mid [] (λ place names. imports config callee old.func.now.tables) no_results (λ (number : ℕ). []) (Ok f) imported.made operands (λ names. []) (λ names long. refl) (λ calls names named. tt)

  -- a call on values
  module _ {A : Type 0} {R : Type 0} (callee : LibCall) (a b c f : ℕ) (old mid new : FunctionBuilder R) (answer : Result A BuildError) (values : A → List ℕ) (has : ImportsFunction config callee old mid (Ok f)) where
    sized_is : (place : ℕ) (names : List Name) → length names ≡ 3
        → imports config callee old.func.now.tables ++ calls_function mid.func.now.tables f (place + 2) names ≡ copies_sized config callee old.func.now.tables place names
    sized_is place names long =
        three_names (λ (ns : List Name). imports config callee old.func.now.tables ++ calls_function mid.func.now.tables f (place + 2) ns ≡ copies_sized config callee old.func.now.tables place ns)
        (λ x y z. ap (λ (r : Request). imports config callee old.func.now.tables ++ r ∷ [])
        (call_is mid.func.now.tables old.func.now.tables callee (library_signature config callee) f x y z has.knows has.number)) names long

    pub sized_made : (h later : Results) → ((place : ℕ) (names : List Name) → h (place + 2) names ≡ later place names) → Makes (a ∷ b ∷ c ∷ []) (calls_function mid.func.now.tables f) h values mid new answer
        → Makes (a ∷ b ∷ c ∷ []) (copies_sized config callee old.func.now.tables) later values old new answer
    sized_made h later same next =
        makes_as old new (a ∷ b ∷ c ∷ []) _ _ values answer
        (makes_then reads old mid new (a ∷ b ∷ c ∷ []) _ _ (λ (number : ℕ). []) f (imports_on callee (a ∷ b ∷ c ∷ []) old mid f has) (calls_function mid.func.now.tables f) h values (λ place names. refl) answer next)
        (copies_sized config callee old.func.now.tables) later (λ place names long. (sized_is place names long, same place names))

  -- a copy of a known size
  pub copy_known_made : {R : Type 0} (callee : LibCall) (size t s f z : ℕ) (old mid one new : FunctionBuilder R) (answer : Result (Unit {0}) BuildError) → HasCurrent mid → ImportsFunction config callee old mid (Ok f)
      → BuildsValue mid one (shapes.unary_imm (size_constant size)) pointer (Ok z)
      → Makes (t ∷ s ∷ z ∷ []) (calls_function one.func.now.tables f) no_results no_values one new answer
      → Makes (t ∷ s ∷ []) (copies_known config callee size old.func.now.tables) no_results no_values old new answer
  copy_known_made callee size t s f z old mid one new answer current has built next =
      makes_as old new (t ∷ s ∷ []) _ _ no_values answer
      (makes_then reads old mid new (t ∷ s ∷ []) _ _ (λ (number : ℕ). []) f (imports_on callee (t ∷ s ∷ []) old mid f has) _ _ no_values (λ place names. refl) answer
      (makes_then reads mid one new (t ∷ s ∷ []) _ _ one_value z (iconst_made reads asks (t ∷ s ∷ []) (size_constant size) pointer mid one (Ok z) current built)
      (λ place names. calls_function one.func.now.tables f place (nth names 1 ∷ nth names 2 ∷ nth names 0 ∷ [])) (λ place names. []) no_values (λ place names. refl) answer
      (makes_from one new (t ∷ s ∷ z ∷ []) (calls_function one.func.now.tables f) no_results no_values answer next (z ∷ t ∷ s ∷ []) (λ names. nth names 1 ∷ nth names 2 ∷ nth names 0 ∷ []) (λ names long. refl) picked)))
      (copies_known config callee size old.func.now.tables) no_results (λ place names long. (two_names (IsKnown place) (each place) names long, refl))
    where
      picked : (calls : List AnsweredCall) (names : List Name) → AllZip (NamesValue calls) names (z ∷ t ∷ s ∷ []) → AllZip (NamesValue calls) (nth names 1 ∷ nth names 2 ∷ nth names 0 ∷ []) (t ∷ s ∷ z ∷ [])
      picked calls names named = (
        nth_named (NamesValue calls) names (z ∷ t ∷ s ∷ []) 1 named (omega arith),
        (nth_named (NamesValue calls) names (z ∷ t ∷ s ∷ []) 2 named (omega arith), (nth_named (NamesValue calls) names (z ∷ t ∷ s ∷ []) 0 named (omega arith), tt)),
      )

      IsKnown : ℕ → List Name → Type 0
      IsKnown place names =
          imports config callee old.func.now.tables ++ (building (computing (Iconst (size_constant size)) pointer []) ∷ []
          ++ calls_function one.func.now.tables f (place + 2 + 1) (nth (answer_of (place + 2) 1 ∷ names) 1 ∷ nth (answer_of (place + 2) 1 ∷ names) 2 ∷ answer_of (place + 2) 1 ∷ []))
          ≡ copies_known config callee size old.func.now.tables place names

      knows : KnowsFunction one.func.now.tables callee (library_signature config callee) f
      knows = knows_on mid one _ _ z callee (library_signature config callee) f current built has.knows

      each : (place : ℕ) (x y : Name) → IsKnown place (x ∷ y ∷ [])
      each place x y =
          let two : place + 2 ≡ behind_imports place = omega arith in
          ap (λ (r : Request). imports config callee old.func.now.tables ++ (building (computing (Iconst (size_constant size)) pointer []) ∷ r ∷ []))
          (call_is one.func.now.tables old.func.now.tables callee (library_signature config callee) f x y (answer_of (place + 2) 1) knows has.number)
          ∙ ap (λ (p : ℕ). imports config callee old.func.now.tables ++ (building (computing (Iconst (size_constant size)) pointer [])
          ∷ building_with (imported old.func.now.tables) (calling callee (library_signature config callee) x y (answer_of p 1)) ∷ [])) two

  -- a byte that is widened
  widened : {R : Type 0} (operands : List ℕ) (k byte : ℕ) (old new : FunctionBuilder R) (answer : Result ℕ BuildError) → k < length operands → slice_index_or operands k 0 ≡ byte → HasCurrent old
      → BuildsValue old new (shapes.convert Uextend byte) i32 answer
      → Makes operands (λ place names. building (computing (Convert Uextend) i32 (nth names k ∷ [])) ∷ []) (λ place names. answer_of place 1 ∷ []) one_value old new answer
  widened operands k byte old new answer inside is current built =
      value_makes operands old new (shapes.convert Uextend byte) i32 answer current (λ names. computing (Convert Uextend) i32 (nth names k ∷ [])) i32 (λ names. refl)
      (λ signature calls names stands named.
      (asks_at reads asks signature calls old stands).convert Uextend i32 (nth names k) byte (subst (NamesValue calls (nth names k)) is (nth_named (NamesValue calls) names operands k named inside)))
      built

  -- a fill with values
  pub fill_sized_made : {R : Type 0} (t b z f w : ℕ) (old mid one new : FunctionBuilder R) (answer : Result (Unit {0}) BuildError) → HasCurrent mid → ImportsFunction config Memset old mid (Ok f)
      → BuildsValue mid one (shapes.convert Uextend b) i32 (Ok w)
      → Makes (t ∷ w ∷ z ∷ []) (calls_function one.func.now.tables f) no_results no_values one new answer
      → Makes (t ∷ b ∷ z ∷ []) (fills_sized config old.func.now.tables) no_results no_values old new answer
  fill_sized_made t b z f w old mid one new answer current has built next =
      makes_as old new (t ∷ b ∷ z ∷ []) _ _ no_values answer
      (makes_then reads old mid new (t ∷ b ∷ z ∷ []) _ _ (λ (number : ℕ). []) f (imports_on Memset (t ∷ b ∷ z ∷ []) old mid f has) _ _ no_values (λ place names. refl) answer
      (makes_then reads mid one new (t ∷ b ∷ z ∷ []) _ _ one_value w (widened (t ∷ b ∷ z ∷ []) 1 b mid one (Ok w) (omega arith) refl current built)
      (λ place names. calls_function one.func.now.tables f place (nth names 1 ∷ nth names 0 ∷ nth names 3 ∷ [])) (λ place names. []) no_values (λ place names. refl) answer
      (makes_from one new (t ∷ w ∷ z ∷ []) (calls_function one.func.now.tables f) no_results no_values answer next (w ∷ t ∷ b ∷ z ∷ []) (λ names. nth names 1 ∷ nth names 0 ∷ nth names 3 ∷ []) (λ names long. refl) picked)))
      (fills_sized config old.func.now.tables) no_results (λ place names long. (three_names (IsSized place) (each place) names long, refl))
    where
      picked : (calls : List AnsweredCall) (names : List Name) → AllZip (NamesValue calls) names (w ∷ t ∷ b ∷ z ∷ []) → AllZip (NamesValue calls) (nth names 1 ∷ nth names 0 ∷ nth names 3 ∷ []) (t ∷ w ∷ z ∷ [])
      picked calls names named = (
        nth_named (NamesValue calls) names (w ∷ t ∷ b ∷ z ∷ []) 1 named (omega arith),
        (nth_named (NamesValue calls) names (w ∷ t ∷ b ∷ z ∷ []) 0 named (omega arith), (nth_named (NamesValue calls) names (w ∷ t ∷ b ∷ z ∷ []) 3 named (omega arith), tt)),
      )

      IsSized : ℕ → List Name → Type 0
      IsSized place names =
          imports config Memset old.func.now.tables ++ (building (computing (Convert Uextend) i32 (nth names 1 ∷ [])) ∷ []
          ++ calls_function one.func.now.tables f (place + 2 + 1) (nth (answer_of (place + 2) 1 ∷ names) 1 ∷ answer_of (place + 2) 1 ∷ nth (answer_of (place + 2) 1 ∷ names) 3 ∷ []))
          ≡ fills_sized config old.func.now.tables place names

      knows : KnowsFunction one.func.now.tables Memset (library_signature config Memset) f
      knows = knows_on mid one _ _ w Memset (library_signature config Memset) f current built has.knows

      each : (place : ℕ) (x y k : Name) → IsSized place (x ∷ y ∷ k ∷ [])
      each place x y k =
          let two : place + 2 ≡ behind_imports place = omega arith in
          ap (λ (r : Request). imports config Memset old.func.now.tables ++ (building (computing (Convert Uextend) i32 (y ∷ [])) ∷ r ∷ []))
          (call_is one.func.now.tables old.func.now.tables Memset (library_signature config Memset) f x (answer_of (place + 2) 1) k knows has.number)
          ∙ ap (λ (p : ℕ). imports config Memset old.func.now.tables ++ (building (computing (Convert Uextend) i32 (y ∷ []))
          ∷ building_with (imported old.func.now.tables) (calling Memset (library_signature config Memset) x (answer_of p 1) k) ∷ [])) two

  -- a fill with a known byte and of a known size
  pub fill_known_made : {R : Type 0} (byte size t f b z w : ℕ) (old mid one two three new : FunctionBuilder R) (answer : Result (Unit {0}) BuildError) → HasCurrent mid → ImportsFunction config Memset old mid (Ok f)
      → BuildsValue mid one (shapes.unary_imm (pos byte)) i8 (Ok b) → BuildsValue one two (shapes.unary_imm (size_constant size)) pointer (Ok z) → BuildsValue two three (shapes.convert Uextend b) i32 (Ok w)
      → Makes (t ∷ w ∷ z ∷ []) (calls_function three.func.now.tables f) no_results no_values three new answer
      → Makes (t ∷ []) (fills_known config byte size old.func.now.tables) no_results no_values old new answer
  fill_known_made byte size t f b z w old mid one two three new answer current has byte_built size_built wide_built next =
      makes_as old new (t ∷ []) _ _ no_values answer
      (makes_then reads old mid new (t ∷ []) _ _ (λ (number : ℕ). []) f (imports_on Memset (t ∷ []) old mid f has) _ _ no_values (λ place names. refl) answer
      (makes_then reads mid one new (t ∷ []) _ _ one_value b (iconst_made reads asks (t ∷ []) (pos byte) i8 mid one (Ok b) current byte_built) _ _ no_values (λ place names. refl) answer
      (makes_then reads one two new (b ∷ t ∷ []) _ _ one_value z (iconst_made reads asks (b ∷ t ∷ []) (size_constant size) pointer one two (Ok z) byte_built.current size_built) _ _ no_values (λ place names. refl) answer
      (makes_then reads two three new (z ∷ b ∷ t ∷ []) _ _ one_value w (widened (z ∷ b ∷ t ∷ []) 1 b two three (Ok w) (omega arith) refl size_built.current wide_built)
      (λ place names. calls_function three.func.now.tables f place (nth names 3 ∷ nth names 0 ∷ nth names 1 ∷ [])) (λ place names. []) no_values (λ place names. refl) answer
      (makes_from three new (t ∷ w ∷ z ∷ []) (calls_function three.func.now.tables f) no_results no_values answer next (w ∷ z ∷ b ∷ t ∷ []) (λ names. nth names 3 ∷ nth names 0 ∷ nth names 1 ∷ []) (λ names long. refl) picked)))))
      (fills_known config byte size old.func.now.tables) no_results (λ place names long. (one_name (IsFilled place) (each place) names long, refl))
    where
      picked : (calls : List AnsweredCall) (names : List Name) → AllZip (NamesValue calls) names (w ∷ z ∷ b ∷ t ∷ []) → AllZip (NamesValue calls) (nth names 3 ∷ nth names 0 ∷ nth names 1 ∷ []) (t ∷ w ∷ z ∷ [])
      picked calls names named = (
        nth_named (NamesValue calls) names (w ∷ z ∷ b ∷ t ∷ []) 3 named (omega arith),
        (nth_named (NamesValue calls) names (w ∷ z ∷ b ∷ t ∷ []) 0 named (omega arith), (nth_named (NamesValue calls) names (w ∷ z ∷ b ∷ t ∷ []) 1 named (omega arith), tt)),
      )

      IsFilled : ℕ → List Name → Type 0
      IsFilled place names =
          imports config Memset old.func.now.tables ++ (building (computing (Iconst (pos byte)) i8 []) ∷ building (computing (Iconst (size_constant size)) pointer [])
          ∷ building (computing (Convert Uextend) i32 (answer_of (place + 2) 1 ∷ []))
          ∷ calls_function three.func.now.tables f (place + 2 + 1 + 1 + 1) (nth (answer_of (place + 2 + 1 + 1) 1 ∷ answer_of (place + 2 + 1) 1 ∷ answer_of (place + 2) 1 ∷ names) 3 ∷ answer_of (place + 2 + 1 + 1) 1 ∷ answer_of (place + 2 + 1) 1 ∷ []))
          ≡ fills_known config byte size old.func.now.tables place names

      knows : KnowsFunction three.func.now.tables Memset (library_signature config Memset) f
      knows = knows_on two three _ _ w Memset (library_signature config Memset) f size_built.current wide_built
          (knows_on one two _ _ z Memset (library_signature config Memset) f byte_built.current size_built
          (knows_on mid one _ _ b Memset (library_signature config Memset) f current byte_built has.knows))

      Written : (first second third : ℕ) → Name → Script
      Written first second third x =
          imports config Memset old.func.now.tables ++ (building (computing (Iconst (pos byte)) i8 []) ∷ building (computing (Iconst (size_constant size)) pointer [])
          ∷ building (computing (Convert Uextend) i32 (answer_of first 1 ∷ []))
          ∷ building_with (imported old.func.now.tables) (calling Memset (library_signature config Memset) x (answer_of third 1) (answer_of second 1)) ∷ [])

      each : (place : ℕ) (x : Name) → IsFilled place (x ∷ [])
      each place x =
          let p : place + 2 ≡ behind_imports place = omega arith in
          let q : place + 2 + 1 ≡ suc (behind_imports place) = omega arith in
          let r : place + 2 + 1 + 1 ≡ suc (suc (behind_imports place)) = omega arith in
          ap (λ (call : Request). imports config Memset old.func.now.tables ++ (building (computing (Iconst (pos byte)) i8 []) ∷ building (computing (Iconst (size_constant size)) pointer [])
          ∷ building (computing (Convert Uextend) i32 (answer_of (place + 2) 1 ∷ [])) ∷ call ∷ []))
          (call_is three.func.now.tables old.func.now.tables Memset (library_signature config Memset) f x (answer_of (place + 2 + 1 + 1) 1) (answer_of (place + 2 + 1) 1) knows has.number)
          ∙ ap (λ (k : ℕ). Written k (place + 2 + 1) (place + 2 + 1 + 1) x) p
          ∙ ap (λ (k : ℕ). Written (behind_imports place) k (place + 2 + 1 + 1) x) q
          ∙ ap (λ (k : ℕ). Written (behind_imports place) (suc (behind_imports place)) k x) r

  -- a comparison of a known size
  pub compare_known_made : {R : Type 0} (condition : IntCC) (size l r f z o n : ℕ) (old mid one two three new : FunctionBuilder R) (answer : Result ℕ BuildError) → HasCurrent mid → ImportsFunction config Memcmp old mid (Ok f)
      → BuildsValue mid one (shapes.unary_imm (size_constant size)) pointer (Ok z)
      → MakesTyped i32 (l ∷ r ∷ z ∷ []) (calls_function one.func.now.tables f) (λ place names. answer_of place 1 ∷ []) one two (Ok o)
      → BuildsValue two three (shapes.unary_imm (pos 0)) i32 (Ok n) → BuildsValue three new (shapes.int_compare condition o n) (value_at three.func.now o).ty answer
      → Makes (l ∷ r ∷ []) (compares_known config condition size old.func.now.tables) (last_result (compares_known config condition size old.func.now.tables)) one_value old new answer
  compare_known_made condition size l r f z o n old mid one two three new answer current has size_built called zero_built last_built =
      makes_as old new (l ∷ r ∷ []) _ _ one_value answer
      (makes_then reads old mid new (l ∷ r ∷ []) _ _ (λ (number : ℕ). []) f (imports_on Memcmp (l ∷ r ∷ []) old mid f has) _ _ one_value (λ place names. refl) answer
      (makes_then reads mid one new (l ∷ r ∷ []) _ _ one_value z (iconst_made reads asks (l ∷ r ∷ []) (size_constant size) pointer mid one (Ok z) current size_built) _ _ one_value (λ place names. refl) answer
      (makes_then reads one two new (z ∷ l ∷ r ∷ []) (λ place names. calls_function one.func.now.tables f place (nth names 1 ∷ nth names 2 ∷ nth names 0 ∷ [])) (λ place names. answer_of place 1 ∷ []) one_value o
      (makes_from one two (l ∷ r ∷ z ∷ []) (calls_function one.func.now.tables f) (λ place names. answer_of place 1 ∷ []) one_value (Ok o) called.made (z ∷ l ∷ r ∷ []) (λ names. nth names 1 ∷ nth names 2 ∷ nth names 0 ∷ []) (λ names long. refl) picked)
      _ _ one_value (λ place names. refl) answer
      (makes_then reads two three new (o ∷ z ∷ l ∷ r ∷ []) _ _ one_value n (iconst_made reads asks (o ∷ z ∷ l ∷ r ∷ []) (pos 0) i32 two three (Ok n) called.made.line.current zero_built) _ _ one_value (λ place names. refl) answer
      (compare_made reads asks (n ∷ o ∷ z ∷ l ∷ r ∷ []) 1 0 o n condition i32 three new answer (omega arith) (omega arith) refl refl kept zero_built.current last_built)))))
      (compares_known config condition size old.func.now.tables) (last_result (compares_known config condition size old.func.now.tables))
      (λ place names long. two_names (AreCompared place) (each place) names long)
    where
      kept : HasType three o i32
      kept = (let inside = called.typed.0 in let more = zero_built.grows.0 in omega (arith, inside, more), zero_built.types o called.typed.0 ∙ called.typed.1)

      picked : (calls : List AnsweredCall) (names : List Name) → AllZip (NamesValue calls) names (z ∷ l ∷ r ∷ []) → AllZip (NamesValue calls) (nth names 1 ∷ nth names 2 ∷ nth names 0 ∷ []) (l ∷ r ∷ z ∷ [])
      picked calls names named = (
        nth_named (NamesValue calls) names (z ∷ l ∷ r ∷ []) 1 named (omega arith),
        (nth_named (NamesValue calls) names (z ∷ l ∷ r ∷ []) 2 named (omega arith), (nth_named (NamesValue calls) names (z ∷ l ∷ r ∷ []) 0 named (omega arith), tt)),
      )

      knows : KnowsFunction one.func.now.tables Memcmp (library_signature config Memcmp) f
      knows = knows_on mid one _ _ z Memcmp (library_signature config Memcmp) f current size_built has.knows

      Written : (first second third : ℕ) → Name → Name → Script
      Written first second third x y =
          imports config Memcmp old.func.now.tables ++ (building (computing (Iconst (size_constant size)) pointer [])
          ∷ building_with (imported old.func.now.tables) (calling Memcmp (library_signature config Memcmp) x y (answer_of first 1))
          ∷ building (computing (Iconst (pos 0)) i32 []) ∷ building (computing (Compare condition) i32 (answer_of second 1 ∷ answer_of third 1 ∷ [])) ∷ [])

      AreCompared : ℕ → List Name → Type 0
      AreCompared place names =
          (imports config Memcmp old.func.now.tables ++ (building (computing (Iconst (size_constant size)) pointer [])
          ∷ call_request one.func.now.tables f (nth (answer_of (place + 2) 1 ∷ names) 1 ∷ nth (answer_of (place + 2) 1 ∷ names) 2 ∷ answer_of (place + 2) 1 ∷ [])
          ∷ building (computing (Iconst (pos 0)) i32 []) ∷ building (computing (Compare condition) i32 (answer_of (place + 2 + 1) 1 ∷ answer_of (place + 2 + 1 + 1) 1 ∷ [])) ∷ [])
          ≡ compares_known config condition size old.func.now.tables place names)
          × (answer_of (place + 2 + 1 + 1 + 1) 1 ∷ [] ≡ last_result (compares_known config condition size old.func.now.tables) place names)

      each : (place : ℕ) (x y : Name) → AreCompared place (x ∷ y ∷ [])
      each place x y =
          let p : place + 2 ≡ behind_imports place = omega arith in
          let q : place + 2 + 1 ≡ suc (behind_imports place) = omega arith in
          let s : place + 2 + 1 + 1 ≡ suc (suc (behind_imports place)) = omega arith in
          let t : place + 2 + 1 + 1 + 1 ≡ place + 6 - 1 = omega arith in (
            ap (λ (call : Request). imports config Memcmp old.func.now.tables ++ (building (computing (Iconst (size_constant size)) pointer [])
                ∷ call ∷ building (computing (Iconst (pos 0)) i32 []) ∷ building (computing (Compare condition) i32 (answer_of (place + 2 + 1) 1 ∷ answer_of (place + 2 + 1 + 1) 1 ∷ [])) ∷ []))
                (call_is one.func.now.tables old.func.now.tables Memcmp (library_signature config Memcmp) f x y (answer_of (place + 2) 1) knows has.number)
                ∙ ap (λ (k : ℕ). Written k (place + 2 + 1) (place + 2 + 1 + 1) x y) p
                ∙ ap (λ (k : ℕ). Written (behind_imports place) k (place + 2 + 1 + 1) x y) q
                ∙ ap (λ (k : ℕ). Written (behind_imports place) (suc (behind_imports place)) k x y) s,
            ap (λ (k : ℕ). answer_of k 1 ∷ []) t,
          )
