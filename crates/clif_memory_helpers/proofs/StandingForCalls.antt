-- A memory helper is one call of a script for a builder that stood for its calls.
use Rattle.std.proofs.Common.{◌≡◌, ◌<◌, ◌+◌, ◌-◌, ◌==◌, ℕ, ℤ, zero, suc, List, [], ◌∷◌, ◌++◌, length, ap, arith, refl, subst, sym, ◌∙◌, length-append}
use Rattle.std.specs.Prelude.{◌&&◌, Bool, true, false, Err, IfOk, IsTrue, Ok, OnOk, Result, map, nat_lt, pos}
use Rattle.std.specs.List.{AllByRecursion, AllZip, list_all}
use Rattle.std.proofs.lemmas.Bool.{and_parts, false≢true}
use Rattle.std.proofs.lemmas.Bool.Decides.{nat_tests}
use Rattle.std.proofs.lemmas.List.{length-map}
use Rattle.clif_types.specs.Signature.{SignatureShape}
use Rattle.clif_types.specs.Target.{pointer_type_of}
use Rattle.clif_types.specs.declared.error.BuildError.{BuildError}
use Rattle.clif_types.specs.declared.libcall.LibCall.{LibCall}
use Rattle.clif_types.specs.declared.libcall.LibCall.TheVariants.{Memcmp, Memcpy, Memmove, Memset}
use Rattle.clif_types.specs.declared.target.TargetFrontendConfig.{TargetFrontendConfig}
use Rattle.clif_types.specs.declared.types.«Type».{«Type»}
use Rattle.clif_tables.specs.Entries.{TableEntry}
use Rattle.clif_tables.specs.Lists.{TableLists}
use Rattle.clif_meaning.specs.Acceptance.{can_lead, is_open}
use Rattle.clif_meaning.specs.ByteOperation.{ByteOperation, CallLibrary, CompareBytes, Copy, Fill}
use Rattle.clif_meaning.specs.Instruction.{Bytes, Instruction}
use Rattle.clif_meaning.specs.Ledger.{Ledger, has_value}
use Rattle.clif_meaning.specs.Name.{Name, answer_of}
use Rattle.clif_meaning.specs.Request.{AnsweredCall, MakeEntry, Script, script_of}
use Rattle.clif_expansion.specs.Emission.{AreGiven, LastResults, building_with, importing, ledger_importing, line_calls_with, reading_behind, reading_importing}
use Rattle.clif_expansion.specs.Reading.{IsReadAs, Reading}
use Rattle.clif_expansion.specs.ScriptCall.{Emit, ScriptCall, call_allowed, can_emit, can_emit_bytes, is_pointer, ledger_of, takes_byte, with_imports}
use Rattle.clif_expansion.proofs.EmittedPrograms.{emitted_before, emitted_result, one_longer}
use Rattle.clif_expansion.proofs.Imports.{importing_before, importing_longer}
use Rattle.clif_expansion.proofs.Joins.{KeepsReading}
use Rattle.clif_simulation.proofs.LedgerValues.{as_many}
use Rattle.clif_builder.specs.declared.builder.FunctionBuilder.{FunctionBuilder}
use Rattle.clif_builder.specs.Ledger.{NamesValue, tables_of_calls}
use Rattle.clif_builder.specs.StandsForCalls.{LeadsToValue, StandsForCalls, StandsOnFor}
use Rattle.clif_builder.proofs.StandingForCalls.{PlainCalls, goes_on, ledgers_joined, plain_ledger}
use Rattle.clif_helper_calls.specs.Lines.{place_importing, reading_with_line}
use Rattle.clif_memory_helpers.specs.Calls.{HelpersStandForCalls, IsSized, LeadToOperands, helping}
use Rattle.clif_memory_helpers.specs.HelperLines.{IsLineOf, emission_of, how_of, imports_for}
use Rattle.clif_memory_helpers.specs.Helpers.{Answers, FillsWith, Helps, MayHelp, helper_calls, may_make, operand_types}
use Rattle.clif_memory_helpers.specs.Lines.{StandsOn}
use Rattle.clif_memory_helpers.proofs.HelperLines.{helpers_are_lines}

-- LISTS OF A LENGTH -------------------------------------------------------------------------------------------------------

zip_as_long : {X Y : Type 0} (P : X → Y → Type 0) (xs : List X) (ys : List Y) → AllZip P xs ys → length xs ≡ length ys
zip_as_long P [] [] all = refl
zip_as_long P [] (y ∷ ys) all = absurd all
zip_as_long P (x ∷ xs) [] all = absurd all
zip_as_long P (x ∷ xs) (y ∷ ys) all = ap suc (zip_as_long P xs ys all.1)

one_of : {X : Type 0} (xs : List X) → length xs ≡ 1 → (x : X) × (x ∷ [] ≡ xs)
one_of [] is = absurd (omega (arith, is))
one_of (x ∷ []) is = (x, refl)
one_of (x ∷ y ∷ xs) is = absurd (omega (arith, is))

two_of : {X : Type 0} (xs : List X) → length xs ≡ 2 → (x y : X) × (x ∷ y ∷ [] ≡ xs)
two_of [] is = absurd (omega (arith, is))
two_of (x ∷ []) is = absurd (omega (arith, is))
two_of (x ∷ y ∷ []) is = (x, y, refl)
two_of (x ∷ y ∷ z ∷ xs) is = absurd (omega (arith, is))

three_of : {X : Type 0} (xs : List X) → length xs ≡ 3 → (x y z : X) × (x ∷ y ∷ z ∷ [] ≡ xs)
three_of [] is = absurd (omega (arith, is))
three_of (x ∷ []) is = absurd (omega (arith, is))
three_of (x ∷ y ∷ []) is = absurd (omega (arith, is))
three_of (x ∷ y ∷ z ∷ []) is = (x, y, z, refl)
three_of (x ∷ y ∷ z ∷ w ∷ xs) is = absurd (omega (arith, is))

-- LINES -------------------------------------------------------------------------------------------------------------------

-- of no bytes a copy or a fill isn't allowed
abbrev MovesSome : ByteOperation → Type 0
MovesSome (Copy copy) = (copy.size == 0) ≡ false
MovesSome (Fill fill) = (fill.size == 0) ≡ false
MovesSome _ = Unit {0}

not_zero : (n : ℕ) → nat_lt 0 n ≡ true → (n == 0) ≡ false
not_zero zero is = absurd (false≢true is)
not_zero (suc n) is = grind (arith, nat_tests)

last_of_six : (a b c d e f : Bool) → (a && b && c && d && e && f) ≡ true → f ≡ true
last_of_six true true true true true f is = is
last_of_six true true true true false f is = absurd (false≢true is)
last_of_six true true true false e f is = absurd (false≢true is)
last_of_six true true false d e f is = absurd (false≢true is)
last_of_six true false c d e f is = absurd (false≢true is)
last_of_six false b c d e f is = absurd (false≢true is)

moves_some : (operation : ByteOperation) (ty : «Type») → can_emit (Bytes operation) ty ≡ true → MovesSome operation
moves_some (Copy copy) ty can = not_zero copy.size (and_parts _ _ (and_parts _ _ (and_parts _ _ can).1).0).0
moves_some (Fill fill) ty can = not_zero fill.size (and_parts _ _ (and_parts _ _ (and_parts _ _ (and_parts _ _ can).1).0).1).0
moves_some (CompareBytes compared) ty can = tt
moves_some (CallLibrary callee) ty can = tt

-- a helper of some bytes is a line, by as many names as it has operands
line_of : (config : TargetFrontendConfig) (operation : ByteOperation) (filling : ℤ) (tables : TableLists) (names own : List Name) → length names ≡ length (operand_types operation)
    → length own ≡ length (operand_types operation) → IsTrue (may_make config.pointer_width operation) → IsSized operation → MovesSome operation → FillsWith operation filling
    → IsLineOf config operation filling tables names own
line_of config (Copy copy) filling tables names own long as_long may sized moves fills =
    let p = two_of names long in
    let o = two_of own as_long in
    subst (λ (xs : List Name). IsLineOf config (Copy copy) filling tables xs own) p.2
    (subst (λ (xs : List Name). IsLineOf config (Copy copy) filling tables (p.0 ∷ p.1 ∷ []) xs) o.2
    (helpers_are_lines.copies config copy filling tables p.0 p.1 o.0 o.1 may sized moves))
line_of config (Fill fill) filling tables names own long as_long may sized moves fills =
    let p = one_of names long in
    let o = one_of own as_long in
    subst (λ (xs : List Name). IsLineOf config (Fill fill) filling tables xs own) p.1
    (subst (λ (xs : List Name). IsLineOf config (Fill fill) filling tables (p.0 ∷ []) xs) o.1
    (helpers_are_lines.fills config fill filling tables p.0 o.0 may sized.0 sized.1 moves fills))
line_of config (CompareBytes compared) filling tables names own long as_long may sized moves fills =
    let p = two_of names long in
    let o = two_of own as_long in
    subst (λ (xs : List Name). IsLineOf config (CompareBytes compared) filling tables xs own) p.2
    (subst (λ (xs : List Name). IsLineOf config (CompareBytes compared) filling tables (p.0 ∷ p.1 ∷ []) xs) o.2
    (helpers_are_lines.compares config compared filling tables p.0 p.1 o.0 o.1 may))
line_of config (CallLibrary callee) filling tables names own long as_long may sized moves fills =
    let three : length (operand_types (CallLibrary callee)) ≡ 3 = three_operands callee in
    let p = three_of names (long ∙ three) in
    let o = three_of own (as_long ∙ three) in
    subst (λ (xs : List Name). IsLineOf config (CallLibrary callee) filling tables xs own) p.3
    (subst (λ (xs : List Name). IsLineOf config (CallLibrary callee) filling tables (p.0 ∷ p.1 ∷ p.2 ∷ []) xs) o.3
    (helpers_are_lines.sized config callee filling tables p.0 p.1 p.2 o.0 o.1 o.2))
  where
    three_operands : (function : LibCall) → length (operand_types (CallLibrary function)) ≡ 3
    three_operands Memcpy = refl
    three_operands Memmove = refl
    three_operands Memset = refl
    three_operands Memcmp = refl

-- Helpers of the tables of a function and of those of its calls are one.
pub same_tables : (config : TargetFrontendConfig) (operation : ByteOperation) (filling : ℤ) (tables : TableLists) (place : ℕ) (names : List Name)
    → helper_calls config operation filling (tables_of_calls tables) place names ≡ helper_calls config operation filling tables place names
same_tables config (Copy copy) filling tables place names = refl
same_tables config (Fill fill) filling tables place names = refl
same_tables config (CompareBytes compared) filling tables place names = refl
same_tables config (CallLibrary Memcpy) filling tables place names = refl
same_tables config (CallLibrary Memmove) filling tables place names = refl
same_tables config (CallLibrary Memset) filling tables place names = refl
same_tables config (CallLibrary Memcmp) filling tables place names = refl

-- ONE CALL ----------------------------------------------------------------------------------------------------------------

module _ {R : Type 0} (config : TargetFrontendConfig) {declared : SignatureShape} {calls : List ScriptCall} {old : FunctionBuilder R}
    (before : StandsForCalls config.pointer_width declared calls old) (operation : ByteOperation) (operands : List ℕ) (names : List Name) (filling : ℤ) (fills : FillsWith operation filling)
    (may_help : MayHelp old config operation operands) (sized : IsSized operation) (leads : LeadToOperands before names operands)
    (may : IsTrue (call_allowed (ledger_of calls) (helping config (ledger_of calls) operation names))) where
  abbrev ledger : Ledger
  ledger = ledger_of calls

  abbrev plain : Ledger
  plain = plain_ledger before

  abbrev emission : Instruction Name Name
  emission = emission_of config operation names

  abbrev imports : List TableEntry
  imports = imports_for config operation ledger.tables

  some : MovesSome operation
  some = moves_some operation (pointer_type_of config.pointer_width)
      (last_of_six (list_all (has_value ledger) emission.contexts) (takes_byte ledger emission.operation emission.operands) (is_open ledger ledger.current) (list_all (has_value ledger) emission.operands)
      (list_all (can_lead ledger) emission.edges) (can_emit emission.operation emission.controlling) may)

  plain_long : length leads.plain ≡ length (operand_types operation)
  plain_long = zip_as_long _ leads.plain operands leads.named ∙ zip_as_long _ operands (operand_types operation) may_help.operands_exist

  line : IsLineOf config operation filling ledger.tables leads.plain names
  line = line_of config operation filling ledger.tables leads.plain names plain_long (sym (zip_as_long _ leads.plain names leads.read) ∙ plain_long) may_help.condition sized some fills

  may_line : IsTrue (call_allowed ledger (Emit imports line.line.emission))
  may_line = ap (λ (e : Instruction Name Name). call_allowed ledger (Emit imports e)) line.emission ∙ may

  abbrev place : ℕ
  place = place_importing (script_of before.made) imports

  abbrev code : List (Instruction Name Name)
  code = line.line.code place

  abbrev later : Reading
  later = reading_with_line line.line imports before.reading (script_of before.made) calls

  place_is : place ≡ length plain.answers + length imports
  place_is = importing_longer plain imports

  kept : KeepsReading before.reading later
  kept x name read =
      let made = ((ledgers_joined before).made x name read).0 in
      emitted_before line.line.how (reading_importing before.reading plain imports) (ledger_importing plain imports) (with_imports imports ledger) code x (let at = place_is in omega (arith, made, at))
      ∙ importing_before before.reading plain imports x made ∙ read

  abbrev added_script : Script
  added_script = line_calls_with line.given imports code (line.line.last place)

  -- the calls that were made are the line
  module _ (new : FunctionBuilder R) (results : List Name) (values : List ℕ)
      (stood : StandsOn declared before.made (helper_calls config operation filling old.func.now.tables (length before.made) leads.plain) results values new) where
    made_is : added_script ≡ script_of stood.added
    made_is =
        let turned : length imports + length before.made ≡ place = (let at = place_is in let many = as_many before.made in omega (arith, at, many)) in
        ap (λ (n : ℕ). line_calls_with line.given imports (line.line.code n) (line.line.last n)) (sym turned)
        ∙ sym (line.requests (length before.made))
        ∙ ap (λ (tables : TableLists). helper_calls config operation filling tables (length before.made) leads.plain) (sym (ledgers_joined before).ledgers.states.tables)
        ∙ ap (λ (tables : TableLists). helper_calls config operation filling tables (length before.made) leads.plain) before.stands.ledger.tables
        ∙ same_tables config operation filling old.func.now.tables (length before.made) leads.plain
        ∙ sym stood.asked

    plain_calls : PlainCalls config.pointer_width later (script_of before.made ++ script_of stood.added) (calls ++ helping config ledger operation names ∷ [])
    plain_calls =
        subst (λ (script : Script). PlainCalls config.pointer_width later (script_of before.made ++ script) (calls ++ helping config ledger operation names ∷ [])) made_is
        (subst (λ (e : Instruction Name Name). PlainCalls config.pointer_width later (script_of before.made ++ added_script) (calls ++ Emit imports e ∷ [])) line.emission (
          line.stands.joined imports line.given before.reading (script_of before.made) calls line.imported before.joined may_line,
          line.stands.performed imports line.given before.reading (script_of before.made) calls line.imported before.joined before.performed leads.read may_line,
        ))

    abbrev stands_on : StandsOnFor before (calls ++ helping config ledger operation names ∷ []) new
    stands_on = goes_on before (helping config ledger operation names) stood.added later new kept may plain_calls stood.stands

    line_long : length (script_of stood.added) ≡ length imports + suc (length code)
    line_long =
        let both = length-append (importing imports) (map (building_with line.given) code ++ building_with line.given (line.line.last place) ∷ []) in
        let first = length-map imports MakeEntry in
        let mapped = length-map code (building_with line.given) in
        let rest = one_longer (map (building_with line.given) code) (building_with line.given (line.line.last place)) in
        let same : length added_script ≡ length (script_of stood.added) = ap (λ (s : Script). length s) made_is in
        omega (arith, both, first, mapped, rest, same)

    -- its answer is the last call's result
    answer_read : line.line.how ≡ AreGiven
        → IsReadAs later (answer_of (length before.made + length (helper_calls config operation filling old.func.now.tables (length before.made) leads.plain) - 1) 1) (answer_of (length ledger.answers) 0)
    answer_read given =
        let made = line_long in
        let at = place_is in
        let many = as_many before.made in
        let asked : length (script_of stood.added) ≡ length (helper_calls config operation filling old.func.now.tables (length before.made) leads.plain) = ap (λ (s : Script). length s) stood.asked in
        let last : length before.made + length (helper_calls config operation filling old.func.now.tables (length before.made) leads.plain) - 1 ≡ length (ledger_importing plain imports).answers + length code =
        omega (arith, made, at, many, asked) in
        subst (λ (how : LastResults). IsReadAs (reading_behind how (reading_importing before.reading plain imports) (ledger_importing plain imports) (with_imports imports ledger) code)
        (answer_of (length before.made + length (helper_calls config operation filling old.func.now.tables (length before.made) leads.plain) - 1) 1) (answer_of (length ledger.answers) 0)) (sym given)
        (emitted_result (reading_importing before.reading plain imports) (ledger_importing plain imports) (with_imports imports ledger) code _ 0 last)

-- what has a result fills nothing
no_filling : (operation : ByteOperation) → how_of operation ≡ AreGiven → FillsWith operation (pos 0)
no_filling (Copy copy) is = tt
no_filling (Fill fill) is = let none : ⊥ = cc in absurd none
no_filling (CompareBytes compared) is = tt
no_filling (CallLibrary callee) is = tt

pub stand_for_calls : {R : Type 0} → HelpersStandForCalls R
stand_for_calls = record {
  helps = helped;
  answers = answered;
}
  where
    helped : {R : Type 0} (config : TargetFrontendConfig) (declared : SignatureShape) (calls : List ScriptCall) (old new : FunctionBuilder R)
        (before : StandsForCalls config.pointer_width declared calls old) (operation : ByteOperation) (operands : List ℕ) (names : List Name)
        (answer : Result (Unit {0}) BuildError) → MayHelp old config operation operands → IsSized operation → LeadToOperands before names operands
        → IsTrue (call_allowed (ledger_of calls) (helping config (ledger_of calls) operation names)) → Helps config operation operands old new answer
        → OnOk answer (StandsOnFor before (calls ++ helping config (ledger_of calls) operation names ∷ []) new)
    helped config declared calls old new before operation operands names (Err error) may_help sized leads may helps = tt
    helped config declared calls old new before operation operands names (Ok done) may_help sized leads may helps =
        stands_on config before operation operands names helps.filling helps.fills may_help sized leads may new _ _
        (helps.made.stands declared before.made leads.plain before.stands leads.named)

    answered : {R : Type 0} (config : TargetFrontendConfig) (declared : SignatureShape) (calls : List ScriptCall) (old new : FunctionBuilder R)
        (before : StandsForCalls config.pointer_width declared calls old) (operation : ByteOperation) (operands : List ℕ) (names : List Name)
        (answer : Result ℕ BuildError) → how_of operation ≡ AreGiven → MayHelp old config operation operands → IsSized operation → LeadToOperands before names operands
        → IsTrue (call_allowed (ledger_of calls) (helping config (ledger_of calls) operation names)) → Answers config operation operands old new answer
        → IfOk answer (λ value. (on : StandsOnFor before (calls ++ helping config (ledger_of calls) operation names ∷ []) new)
        × LeadsToValue on.0 (answer_of (length (ledger_of calls).answers) 0) value)
    answered config declared calls old new before operation operands names (Err error) given may_help sized leads may answers = tt
    answered config declared calls old new before operation operands names (Ok value) given may_help sized leads may answers =
        let fills : FillsWith operation (pos 0) = no_filling operation given in
        let stood = answers.made.stands declared before.made leads.plain before.stands leads.named in
        let line_is = (line config before operation operands names (pos 0) fills may_help sized leads may).how in (
          stands_on config before operation operands names (pos 0) fills may_help sized leads may new _ _ stood,
          record {
            plain = _;
            read = answer_read config before operation operands names (pos 0) fills may_help sized leads may new _ _ stood (line_is ∙ given);
            named = stood.named.0;
          },
        )
