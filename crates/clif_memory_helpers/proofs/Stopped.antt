-- What helpers make that stop where a call fails: some of their calls, one behind the other.
use Rattle.std.proofs.Common.{◌≡◌, ◌≤◌, ◌+◌, ℕ, ℤ, pos, List, [], ◌∷◌, ◌++◌, length, map, refl, sym, ap, subst, arith}
use Rattle.std.specs.Prelude.{Result, Ok, Err}
use Rattle.std.specs.Result.{IsErrAnd}
use Rattle.std.proofs.lemmas.List.{map-append}
use Rattle.clif_types.specs.MemFlags.{MemFlagsShape}
use Rattle.clif_types.specs.Signature.{SignatureShape}
use Rattle.clif_types.specs.declared.condcodes.IntCC.{IntCC}
use Rattle.clif_types.specs.declared.error.BuildError.{BuildError}
use Rattle.clif_types.specs.declared.libcall.LibCall.{LibCall}
use Rattle.clif_types.specs.declared.target.TargetFrontendConfig.{TargetFrontendConfig}
use Rattle.clif_types.specs.declared.types.«Type».{«Type»}
use Rattle.clif_access_plans.specs.declared.moving.Accesses.{Accesses}
use Rattle.clif_instructions.specs.declared.instructions.InstructionData.{InstructionData}
use Rattle.clif_tables.specs.Lists.{TableLists}
use Rattle.clif_meaning.specs.Instruction.{Instruction}
use Rattle.clif_meaning.specs.Name.{Name}
use Rattle.clif_meaning.specs.Request.{Request, Script}
use Rattle.clif_meaning.specs.Sizes.{made_by_script}
use Rattle.clif_builder.specs.declared.builder.FunctionBuilder.{FunctionBuilder}
use Rattle.clif_builder.specs.Adding.{AddsAtMost, instruction_makes}
use Rattle.clif_builder.specs.Builder.{HasCurrent}
use Rattle.clif_builder.specs.Built.{BuildsValue}
use Rattle.clif_builder.proofs.Adding.{adds_fewer, adds_ok, adds_then, value_adds}
use Rattle.clif_expansion.specs.Emission.{building, building_with}
use Rattle.clif_expansion.specs.ScriptCall.{emitted_types}
use Rattle.clif_helper_calls.specs.LibraryCodes.{calling}
use Rattle.clif_helper_calls.specs.PieceStanding.{load_instructions, piece_names, store_instructions}
use Rattle.clif_memory_helpers.specs.Helpers.{imported}
use Rattle.clif_memory_helpers.specs.Lines.{InLine, Makes, Requests, Results, no_results, no_values, nth, one_value}
use Rattle.clif_memory_helpers.specs.Steps.{ImportsFunction, KnowsFunction, MakesTyped, call_request, calls_function, copied, imports, loads}
use Rattle.clif_memory_helpers.proofs.Chains.{both_fit, call_fits, makes_failed}
use Rattle.clif_memory_helpers.proofs.LibraryCalls.{call_is}
use Rattle.clif_memory_helpers.proofs.Lines.{line_ok, line_on, value_line}

abbrev done : Result (Unit {0}) BuildError
done = Ok tt

-- These calls were made, and the function has at most the entries more that they make.
pub record MadeSo {R : Type 0} (script : Script) (old new : FunctionBuilder R) : Type 0 where
  pub line : InLine old new done
  pub adds : AddsAtMost (made_by_script script) old new done

-- one more call
so_then : {A : Type 0} {R : Type 0} (first next : Script) (old mid new : FunctionBuilder R) (a : A) → MadeSo first old mid → InLine mid new (Ok a) → AddsAtMost (made_by_script next) mid new (Ok a) → MadeSo (first ++ next) old new
so_then first next old mid new a so line adds = record {
  line = line_ok old new a tt (line_on old mid new tt (Ok a) so.line line);
  adds = adds_ok (made_by_script (first ++ next)) old new a tt
      (adds_then (made_by_script first) (made_by_script next) (made_by_script (first ++ next)) old mid new tt (Ok a) (both_fit first next) so.adds adds);
}

value_script : {R : Type 0} (old new : FunctionBuilder R) (shape : InstructionData) (ty : «Type») (answer : Result ℕ BuildError) (instruction : Instruction Name Name) → length (emitted_types instruction) ≡ 1
    → BuildsValue old new shape ty answer → AddsAtMost (made_by_script (building instruction ∷ [])) old new answer
value_script old new shape ty answer instruction gives builds =
    adds_fewer (instruction_makes 1) (made_by_script (building instruction ∷ [])) old new answer (call_fits 1 (building instruction) [] (omega (arith, gives)) (omega arith)) (value_adds old new shape ty answer builds)

-- a value
pub so_value : {R : Type 0} (first : Script) (instruction : Instruction Name Name) (old mid new : FunctionBuilder R) (shape : InstructionData) (ty : «Type») (v : ℕ) → length (emitted_types instruction) ≡ 1 → MadeSo first old mid
    → BuildsValue mid new shape ty (Ok v) → MadeSo (first ++ building instruction ∷ []) old new
so_value first instruction old mid new shape ty v gives so builds =
    so_then first (building instruction ∷ []) old mid new v so (value_line mid new shape ty (Ok v) so.line.current builds) (value_script mid new shape ty (Ok v) instruction gives builds)

pub so_first : {R : Type 0} (instruction : Instruction Name Name) (old new : FunctionBuilder R) (shape : InstructionData) (ty : «Type») (v : ℕ) → length (emitted_types instruction) ≡ 1 → HasCurrent old
    → BuildsValue old new shape ty (Ok v) → MadeSo (building instruction ∷ []) old new
so_first instruction old new shape ty v gives current builds = record {
  line = line_ok old new v tt (value_line old new shape ty (Ok v) current builds);
  adds = adds_ok (made_by_script (building instruction ∷ [])) old new v tt (value_script old new shape ty (Ok v) instruction gives builds);
}

-- the imports
pub so_imported : {R : Type 0} (config : TargetFrontendConfig) (callee : LibCall) (old new : FunctionBuilder R) (f : ℕ) → ImportsFunction config callee old new (Ok f) → MadeSo (imports config callee old.func.now.tables) old new
so_imported config callee old new f has = record { line = line_ok old new f tt has.made.line; adds = adds_ok (made_by_script (imports config callee old.func.now.tables)) old new f tt (has.made.most 0 [] refl) }

-- calls on three values of a function that was imported into these tables
called_script : {A : Type 0} {R : Type 0} (tables : TableLists) (callee : LibCall) (signature : SignatureShape) (function : ℕ) (operands : List ℕ) (g : Results) (values : A → List ℕ) (old new : FunctionBuilder R) (answer : Result A BuildError) (x y z : Name)
    → length operands ≡ 3 → KnowsFunction old.func.now.tables callee signature function → function ≡ length tables.functions → Makes operands (calls_function old.func.now.tables function) g values old new answer
    → AddsAtMost (made_by_script (building_with (imported tables) (calling callee signature x y z) ∷ [])) old new answer
called_script tables callee signature function operands g values old new answer x y z three knows is makes =
    subst (λ (call : Request). AddsAtMost (made_by_script (call ∷ [])) old new answer) (call_is old.func.now.tables tables callee signature function x y z knows is) (makes.most 0 (x ∷ y ∷ z ∷ []) (sym three))

pub so_called : {A : Type 0} {R : Type 0} (first : Script) (tables : TableLists) (callee : LibCall) (signature : SignatureShape) (function : ℕ) (operands : List ℕ) (g : Results) (values : A → List ℕ) (old mid new : FunctionBuilder R) (a : A) (x y z : Name)
    → length operands ≡ 3 → KnowsFunction mid.func.now.tables callee signature function → function ≡ length tables.functions → MadeSo first old mid → Makes operands (calls_function mid.func.now.tables function) g values mid new (Ok a)
    → MadeSo (first ++ building_with (imported tables) (calling callee signature x y z) ∷ []) old new
so_called first tables callee signature function operands g values old mid new a x y z three knows is so makes =
    so_then first (building_with (imported tables) (calling callee signature x y z) ∷ []) old mid new a so makes.line (called_script tables callee signature function operands g values mid new (Ok a) x y z three knows is makes)

-- WHERE A CALL FAILS ------------------------------------------------------------------------------------------------------

-- a script begins with some calls
pub record Begins (first script : Script) : Type 0 where
  pub rest : Script
  pub is : script ≡ first ++ rest

module _ {A B : Type 0} {R : Type 0} (operands : List ℕ) (q : Requests) (h : Results) (later : B → List ℕ) (r : Result B BuildError) (e : BuildError) (is : IsErrAnd r (λ y. y ≡ e)) where
  -- these calls were made and others not, where one of them failed
  pub makes_front : (first : ℕ → List Name → Script) (old new : FunctionBuilder R) → InLine {A = A} old new (Err e)
      → ((place : ℕ) (names : List Name) → length names ≡ length operands → AddsAtMost {A = A} (made_by_script (first place names)) old new (Err e) × Begins (first place names) (q place names))
      → Makes operands q h later old new r
  makes_front first old new line adds =
      makes_failed {A = A} old new operands q h later r e line (λ place names long.
      let made = adds place names long in
      subst (λ (s : Script). AddsAtMost {A = A} (made_by_script s) old new (Err e)) (sym made.1.is)
      (adds_fewer {A = A} (made_by_script (first place names)) (made_by_script (first place names ++ made.1.rest)) old new (Err e)
      (λ table. let both = both_fit (first place names) made.1.rest table in omega (arith, both)) made.0)) is

  -- a call failed behind others
  pub makes_stopped : (first next : ℕ → List Name → Script) (old mid new : FunctionBuilder R) → InLine {A = A} mid new (Err e)
      → ((place : ℕ) (names : List Name) → length names ≡ length operands
      → MadeSo (first place names) old mid × AddsAtMost {A = A} (made_by_script (next place names)) mid new (Err e) × Begins (first place names ++ next place names) (q place names))
      → InLine {A = Unit {0}} old mid done → Makes operands q h later old new r
  makes_stopped first next old mid new failed made line =
      makes_front (λ place names. first place names ++ next place names) old new (line_on old mid new tt (Err e) line failed) (λ place names long.
      let so = made place names long in (
        adds_then (made_by_script (first place names)) (made_by_script (next place names)) (made_by_script (first place names ++ next place names)) old mid new tt (Err e)
            (both_fit (first place names) (next place names)) so.0.adds so.1,
        so.2,
      ))

module _ {B : Type 0} {R : Type 0} (operands : List ℕ) (q : Requests) (h : Results) (later : B → List ℕ) (r : Result B BuildError) (e : BuildError) (is : IsErrAnd r (λ y. y ≡ e))
    (instruction : ℕ → List Name → Instruction Name Name) (gives : (place : ℕ) (names : List Name) → length (emitted_types (instruction place names)) ≡ 1) where
  -- the first call is a value that isn't built
  pub first_stopped : (old new : FunctionBuilder R) (shape : InstructionData) (ty : «Type») → HasCurrent old → BuildsValue old new shape ty (Err e)
      → ((place : ℕ) (names : List Name) → length names ≡ length operands → Begins (building (instruction place names) ∷ []) (q place names)) → Makes operands q h later old new r
  first_stopped old new shape ty current builds begins =
      makes_front {A = ℕ} operands q h later r e is (λ place names. building (instruction place names) ∷ []) old new (value_line old new shape ty (Err e) current builds)
      (λ place names long. (value_script old new shape ty (Err e) (instruction place names) (gives place names) builds, begins place names long))

  -- a value isn't built behind other calls
  pub value_stopped : (first : ℕ → List Name → Script) (old mid new : FunctionBuilder R) (shape : InstructionData) (ty : «Type») → InLine {A = Unit {0}} old mid done → BuildsValue mid new shape ty (Err e)
      → ((place : ℕ) (names : List Name) → length names ≡ length operands → MadeSo (first place names) old mid)
      → ((place : ℕ) (names : List Name) → length names ≡ length operands → Begins (first place names ++ building (instruction place names) ∷ []) (q place names)) → Makes operands q h later old new r
  value_stopped first old mid new shape ty line builds so begins =
      makes_stopped {A = ℕ} operands q h later r e is first (λ place names. building (instruction place names) ∷ []) old mid new (value_line mid new shape ty (Err e) line.current builds)
      (λ place names long. (so place names long, value_script mid new shape ty (Err e) (instruction place names) (gives place names) builds, begins place names long)) line

module _ {B : Type 0} {R : Type 0} (operands : List ℕ) (q : Requests) (h : Results) (later : B → List ℕ) (r : Result B BuildError) (e : BuildError) (is : IsErrAnd r (λ y. y ≡ e)) where
  -- the function wasn't imported
  pub imports_stopped : (config : TargetFrontendConfig) (callee : LibCall) (old new : FunctionBuilder R) → ImportsFunction config callee old new (Err e)
      → ((place : ℕ) (names : List Name) → length names ≡ length operands → Begins (imports config callee old.func.now.tables) (q place names)) → Makes operands q h later old new r
  imports_stopped config callee old new has begins =
      makes_front {A = ℕ} operands q h later r e is (λ place names. imports config callee old.func.now.tables) old new has.made.line (λ place names long. (has.made.most 0 [] refl, begins place names long))

  -- a call of the function failed, which was imported into these tables
  pub called_stopped : {C : Type 0} (first : ℕ → List Name → Script) (tables : TableLists) (callee : LibCall) (signature : SignatureShape) (function : ℕ) (args : List ℕ) (g : Results) (values : C → List ℕ) (old mid new : FunctionBuilder R)
      (x y z : ℕ → List Name → Name) → length args ≡ 3 → KnowsFunction mid.func.now.tables callee signature function → function ≡ length tables.functions → InLine {A = Unit {0}} old mid done
      → Makes {A = C} args (calls_function mid.func.now.tables function) g values mid new (Err e)
      → ((place : ℕ) (names : List Name) → length names ≡ length operands → MadeSo (first place names) old mid)
      → ((place : ℕ) (names : List Name) → length names ≡ length operands
      → Begins (first place names ++ building_with (imported tables) (calling callee signature (x place names) (y place names) (z place names)) ∷ []) (q place names)) → Makes operands q h later old new r
  called_stopped {C} first tables callee signature function args g values old mid new x y z three knows number line makes so begins =
      makes_stopped {A = C} operands q h later r e is first (λ place names. building_with (imported tables) (calling callee signature (x place names) (y place names) (z place names)) ∷ []) old mid new makes.line
      (λ place names long. (
        so place names long,
        called_script tables callee signature function args g values mid new (Err e) (x place names) (y place names) (z place names) three knows number makes,
        begins place names long,
      )) line

-- nothing was stored, since a load failed
pub copy_stopped : {B : Type 0} {R : Type 0} (accesses : Accesses) (flags : MemFlagsShape) (target source : ℕ) (values : B → List ℕ) (old new : FunctionBuilder R) (r : Result (Unit {0}) BuildError) (e : BuildError)
    → Makes {A = B} (source ∷ []) (loads accesses flags accesses.count) (λ place names. piece_names place accesses.count) values old new (Err e) → IsErrAnd r (λ y. y ≡ e)
    → Makes (target ∷ source ∷ []) (copied accesses flags) no_results no_values old new r
copy_stopped {B} accesses flags target source values old new r e makes is =
    makes_front {A = B} (target ∷ source ∷ []) (copied accesses flags) no_results no_values r e is (λ place names. loads accesses flags accesses.count place (nth names 1 ∷ [])) old new makes.line
    (λ place names long. (
      makes.most place (nth names 1 ∷ []) refl,
      record {
        rest = map building (store_instructions flags accesses.ty accesses.bytes (nth names 0) 0 (piece_names place accesses.count));
        is = map-append building (load_instructions flags accesses.ty accesses.bytes (nth names 1) 0 accesses.count) (store_instructions flags accesses.ty accesses.bytes (nth names 0) 0 (piece_names place accesses.count));
      },
    ))

-- a value isn't made
pub typed_stopped : {R : Type 0} (ty : «Type») (old new : FunctionBuilder R) (operands : List ℕ) (p : Requests) (g : Results) (r : Result ℕ BuildError) (e : BuildError) → IsErrAnd r (λ y. y ≡ e) → Makes operands p g one_value old new r
    → MakesTyped ty operands p g old new r
typed_stopped ty old new operands p g (Ok v) e is made = absurd is
typed_stopped ty old new operands p g (Err y) e is made = record { typed = tt; made = made }
