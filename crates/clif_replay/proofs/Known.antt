-- How the names of a list's answers are known to a builder that was asked plain calls, from one call of the script to the next.
use Rattle.std.proofs.Common.{◌≡◌, ◌<◌, ◌≤◌, ◌⊎◌, inl, inr, ℕ, ℤ, suc, ◌+◌, ◌-◌, List, [], ◌∷◌, ◌++◌, length, ap, arith, refl, sym, ◌∙◌, subst}
use Rattle.std.specs.List.{AllByRecursion, AllZip}
use Rattle.std.specs.Prelude.{◌==◌, nat_lt, IsTrue, Bool, true, false, if◌then◌else◌, is_some, map, option_and_then, option_map, slice_get, Some}
use Rattle.std.proofs.lemmas.Bool.{cases_lt, false≢true, le-ltb, lt-ltb}
use Rattle.std.proofs.lemmas.List.{length-append, length-map}
use Rattle.std.proofs.lemmas.Option.{slice_get_past}
use Rattle.clif_types.specs.Signature.{SignatureShape}
use Rattle.clif_types.specs.Target.{pointer_type_of}
use Rattle.clif_types.specs.Types.{bits_of}
use Rattle.clif_types.specs.declared.target.TargetFrontendConfig.{TargetFrontendConfig}
use Rattle.clif_types.specs.declared.types.«Type».{«Type»}
use Rattle.clif_tables.specs.Entries.{TableEntry}
use Rattle.clif_meaning.specs.Acceptance.{allows, blames_variable}
use Rattle.clif_meaning.specs.Instruction.{Edge, Instruction}
use Rattle.clif_meaning.specs.Ledger.{AValue, Answered, Ledger, answer_at, empty_ledger, ledger_after, value_answer_type}
use Rattle.clif_meaning.specs.Name as named
use Rattle.clif_meaning.specs.Name.{answer_of}
use Rattle.clif_meaning.specs.ByteOperation.{ByteOperation}
use Rattle.clif_meaning.specs.Request.{GivenEntry, MakeEntry, Request, Script}
use Rattle.clif_tables.specs.Lists.{TableLists}
use Rattle.clif_expansion.specs.ConstantCalls.{constant_calls, constant_instructions, constant_last, IsPerformedByConstant}
use Rattle.clif_expansion.specs.Emission as emitting
use Rattle.clif_expansion.specs.Emission.{AreGenerated, AreGiven, LastResults, building, building_with, importing, ledger_importing, line_calls_with, reading_across, reading_behind, reading_emitted, reading_importing}
use Rattle.clif_expansion.specs.JoinedCalls.{AreJoinedCalls, Asking, IsImported, Switching}
use Rattle.clif_expansion.specs.Joining.{AreJoinedLedgers, IsJoined, IsReadException, IsReadRequest, IsReadTable, answers_at, reading_after, reading_with}
use Rattle.clif_expansion.specs.PerformedCalls.{ArePerformed}
use Rattle.clif_expansion.specs.Reading.{Generated, IsReadAs, IsReadInstruction, Reading, ScriptName, StandsFor}
use Rattle.clif_expansion.specs.ScriptCall.{Ask, Emit, OfSwitch, ScriptCall, call_allowed, call_answers, call_refusal, emitted_types, ledger_of, ledger_with_call, with_imports}
use Rattle.clif_expansion.specs.Switching.{IsSwitchCode, switching}
use Rattle.clif_expansion.proofs.Across.{across_before, across_read}
use Rattle.clif_expansion.proofs.EmittedPrograms.{emitted_before, emitted_result, one_longer}
use Rattle.clif_expansion.proofs.Imports.{importing_before, importing_longer}
use Rattle.clif_expansion.proofs.JoinedCalls.{asked_placed, calls_made, emission_placed, fold_on, joined_calls}
use Rattle.clif_expansion.specs.Keys.{keys_refusal}
use Rattle.clif_expansion.proofs.JoinedStates.{zip_each}
use Rattle.clif_expansion.proofs.Joins.{KeepsReading, answers_last, exception_later, keeps, read_before, read_either, read_there, table_later}
use Rattle.clif_expansion.proofs.Names.{same_script}
use Rattle.clif_expansion.proofs.PerformedConstants.{constant_calls_are_performed}
use Rattle.clif_expansion.proofs.ReadConditions.{conditions_are_read, emission_same}
use Rattle.clif_helper_calls.specs.Lines.{Line, LineStands, place_importing}
use Rattle.clif_calls.specs.declared.call.Call.{Call}
use Rattle.clif_calls.specs.declared.call.Name.{Name}
use Rattle.clif_calls.specs.declared.immediate.ImmediateCall.{ImmediateCall}
use Rattle.clif_calls.specs.declared.immediate.ImmediateCall.TheVariants as immediate
use Rattle.clif_calls.specs.declared.memory.MemoryCall.{MemoryCall}
use Rattle.clif_memory_helpers.specs.HelperLines.{HelpersAreLines, IsLineOf, emission_of, how_of, imports_for}
use Rattle.clif_memory_helpers.specs.Helpers.{FillsWith, helper_calls}
use Rattle.clif_calls.specs.declared.switch.SwitchEntry.{SwitchEntry}
use Rattle.clif_replay.specs.Emits.{constant_in, plain_calls_under, plain_in}
use Rattle.clif_replay.specs.Cases.{keys_of, switch_under}
use Rattle.clif_replay.specs.Helpers.{IsSized, first_answer, helper_under, moves_nothing, operands_in, operation_in}
use Rattle.clif_replay.specs.Requests.{Naming, emission_under, emitted_in, name_of, operand_in, operand_type, request_of, request_under}
use Rattle.clif_replay.specs.Replayed.{ArePlainCalls, IsOfWidth}
use Rattle.clif_replay.proofs.HelperLines.{line-of, may-made}
use Rattle.clif_replay.proofs.Narrowing.{narrowed, narrowed-emission}
use Rattle.clif_replay.proofs.Nowhere.{AreAnswered, AreDenied, IsNowhere, emitted, nowhere, read-answered, told}
use Rattle.clif_replay.proofs.ReadCalls.{AreReadTables, emission-read, entry-read, helper-read, numbers-read, request-read, switch-read, type-read, type-same}
use Rattle.clif_replay.proofs.Unanswered.{AreUnanswered, emitted-alike, generated-read, importing-read, still-unanswered}
use Rattle.clif_resolution.specs.Entries.{number_in}
use Rattle.clif_replay.specs.Entries.{entry_as, numbers_in}
use Rattle.clif_replay.proofs.Whole.{whole, whole-joined, whole-later, whole-made, whole-one, whole-past}

-- what holds of all elements of a list with one more holds of those before it, and of the last one
all-before : {X : Type 0} (P : X → Type 0) (xs : List X) (x : X) → AllByRecursion P (xs ++ x ∷ []) → AllByRecursion P xs
all-before P [] x all = tt
all-before P (first ∷ xs) x all = (all.0, all-before P xs x all.1)

all-last : {X : Type 0} (P : X → Type 0) (xs : List X) (x : X) → AllByRecursion P (xs ++ x ∷ []) → P x
all-last P [] x all = all.0
all-last P (first ∷ xs) x all = all-last P xs x all.1

-- The builder was asked plain calls of the script's calls, and the names of so many answers are known as what is read as them, or as
-- names that lead to no answer on either side.
pub record AreKnown (naming : Naming) (count : ℕ) (plain : Script) (script : List ScriptCall) : Type 0 where
  pub calls : ArePlainCalls plain script
  pub full : Reading
  pub keeps : KeepsReading calls.reading full
  pub only : (x name : named.Name) → IsReadAs full x name → IsReadAs calls.reading x name ⊎ AreUnanswered (ledger_after plain) (ledger_of script) x name
  pub reads : (name : Name) → name.place < count → IsReadAs full (naming name) (name_of name)

-- the plain arithmetic on the constant performs what is emitted
performed-by : (called : ImmediateCall) → IsPerformedByConstant (plain_in called) (emitted_in called) (constant_in called)
performed-by (immediate.IaddImmS x imm) = constant_calls_are_performed.adds imm
performed-by (immediate.IcmpImmS cond x imm) = constant_calls_are_performed.compares cond imm

module _ (naming : Naming) (count : ℕ) (plain : Script) (script : List ScriptCall) (known : AreKnown naming count plain script)
    (as_many : length (ledger_of script).answers ≡ count)
    (later : (name : Name) (k : ℕ) → name.place ≡ count + k → naming name ≡ answer_of (length (ledger_after plain).answers + k) name.answer)
    (answered : AreAnswered (ledger_after plain)) where
  abbrev plain_ledger : Ledger
  plain_ledger = ledger_after plain

  abbrev ledger : Ledger
  ledger = ledger_of script

  abbrev reading : Reading
  reading = known.calls.reading

  abbrev full : Reading
  full = known.full

  -- the whole reading, and with names that lead to no answer
  abbrev all : Reading
  all = whole reading plain_ledger ledger

  abbrev wide : Reading
  wide = whole full plain_ledger ledger

  joined : IsJoined reading plain_ledger ledger
  joined = joined_calls reading plain script known.calls.joined

  abbrev all-joined : AreJoinedLedgers all plain_ledger ledger
  all-joined = whole-joined reading plain_ledger ledger joined

  below : (x name : named.Name) → IsReadAs full x name → x.place < length plain_ledger.answers
  below x name is = elim (known.only x name is) [ inl read ↦ (joined.made x name read).0 | inr gone ↦ gone.plain_made ]

  all-wide : KeepsReading all wide
  all-wide x name is = by (cases_lt x.place (length plain_ledger.answers))
    where
      by : (x.place < length plain_ledger.answers) ⊎ (length plain_ledger.answers ≤ x.place) → IsReadAs wide x name
      by (inl made) = whole-made full plain_ledger ledger x made ∙ known.keeps x name (sym (whole-made reading plain_ledger ledger x made) ∙ is)
      by (inr past) = sym (whole-past reading full plain_ledger ledger x past) ∙ is

  each : (x name : named.Name) → IsReadAs wide x name → IsReadAs all x name ⊎ (IsNowhere plain_ledger x × IsNowhere ledger name)
  each x name is = by (cases_lt x.place (length plain_ledger.answers))
    where
      of_full : IsReadAs reading x name ⊎ AreUnanswered plain_ledger ledger x name → x.place < length plain_ledger.answers → IsReadAs all x name ⊎ (IsNowhere plain_ledger x × IsNowhere ledger name)
      of_full (inl read) made = inl (whole-made reading plain_ledger ledger x made ∙ read)
      of_full (inr gone) made = inr (nowhere plain_ledger answered x gone.none_plain, read-answered reading plain_ledger ledger joined answered name gone.none)

      by : (x.place < length plain_ledger.answers) ⊎ (length plain_ledger.answers ≤ x.place) → IsReadAs all x name ⊎ (IsNowhere plain_ledger x × IsNowhere ledger name)
      by (inl made) = of_full (known.only x name (sym (whole-made full plain_ledger ledger x made) ∙ is)) made
      by (inr past) = inl (whole-past reading full plain_ledger ledger x past ∙ is)

  tables-read : AreReadTables wide plain_ledger ledger
  tables-read = record {
    entries = λ table x name is. elim (each x name is) [
      | inl read ↦ entry-read table all (answer_at plain_ledger x) (answer_at ledger name) (all-joined.answers x name read)
      | inr gone ↦ ap (option_and_then (λ (answered : Answered). number_in table (entry_as answered))) (gone.0.unanswered ∙ sym gone.1.unanswered)
    ];
    types = λ x name is. elim (each x name is) [
      | inl read ↦ type-read all (answer_at plain_ledger x) (answer_at ledger name) (all-joined.answers x name read)
      | inr gone ↦ ap value_answer_type (gone.0.unanswered ∙ sym gone.1.unanswered)
    ];
    jump_tables = zip_each (IsReadTable all) (IsReadTable wide) (table_later all wide all-wide) plain_ledger.jump_tables ledger.jump_tables all-joined.states.jump_tables;
    exception_tables = zip_each (IsReadException all) (IsReadException wide) (exception_later all wide all-wide) plain_ledger.exception_tables ledger.exception_tables all-joined.states.exception_tables;
    tables = all-joined.states.tables;
  }

  reads-wide : (name : Name) → IsReadAs wide (naming name) (name_of name)
  reads-wide name = by (cases_lt name.place count)
    where
      by : (name.place < count) ⊎ (count ≤ name.place) → IsReadAs wide (naming name) (name_of name)
      by (inl made) = let read = known.reads name made in whole-made full plain_ledger ledger (naming name) (below (naming name) (name_of name) read) ∙ read
      by (inr past) =
          let behind : name.place ≡ count + (name.place - count) = omega (arith, past) in
          let place : length ledger.answers + (name.place - count) ≡ name.place = omega (arith, past, as_many) in
          ap wide (later name (name.place - count) behind) ∙ whole-later full plain_ledger ledger (name.place - count) name.answer
          ∙ ap (λ (n : ℕ). ScriptName (answer_of n name.answer)) place

  -- names of entries stand for the same numbers
  pub numbers-known : numbers_in naming plain_ledger ≡ numbers_in name_of ledger
  numbers-known = numbers-read wide naming plain_ledger ledger tables-read reads-wide

  narrow : (x name : named.Name) → IsReadAs all x name → x.place < length plain_ledger.answers → IsReadAs reading x name
  narrow x name is made = sym (whole-made reading plain_ledger ledger x made) ∙ is

  -- ONE CALL MORE ---------------------------------------------------------------------------------------------------------

  -- memory helpers before it have the width, if all have it
  widths-before : (call : ScriptCall) (pointer_width : ℕ) → AllByRecursion (IsOfWidth pointer_width) (script ++ call ∷ []) → AllByRecursion (IsOfWidth pointer_width) script
  widths-before call pointer_width of = all-before (IsOfWidth pointer_width) script call of

  -- what is read behind one call more is read newly, or was read, or leads to no answer
  only-later : (more : Script) (call : ScriptCall) (reading' full' : Reading) → KeepsReading reading reading'
      → ((x name : named.Name) → IsReadAs full' x name → IsReadAs reading' x name ⊎ IsReadAs full x name)
      → (x name : named.Name) → IsReadAs full' x name → IsReadAs reading' x name ⊎ AreUnanswered (ledger_after (plain ++ more)) (ledger_of (script ++ call ∷ [])) x name
  only-later more call reading' full' keeps' split x name is = by (split x name is)
    where
      of_full : IsReadAs reading x name ⊎ AreUnanswered plain_ledger ledger x name
          → IsReadAs reading' x name ⊎ AreUnanswered (ledger_after (plain ++ more)) (ledger_of (script ++ call ∷ [])) x name
      of_full (inl read) = inl (keeps' x name read)
      of_full (inr gone) = inr (still-unanswered plain more script call x name gone)

      by : IsReadAs reading' x name ⊎ IsReadAs full x name → IsReadAs reading' x name ⊎ AreUnanswered (ledger_after (plain ++ more)) (ledger_of (script ++ call ∷ [])) x name
      by (inl new) = inl new
      by (inr old) = of_full (known.only x name old)

  -- ASKING ----------------------------------------------------------------------------------------------------------------

  module _ (declared : SignatureShape) (c : Call) where
    abbrev asked : Request
    asked = request_under naming declared plain_ledger c

    abbrev request : Request
    request = request_of declared ledger c

    is-told : IsReadRequest all asked request ⊎ AreDenied plain_ledger ledger asked request
    is-told = told wide all plain_ledger ledger each asked request (request-read wide naming plain_ledger ledger tables-read reads-wide declared c)

    -- the call may be made, and is to blame its variable, where the builder's may be and is
    pub allowed-same : allows plain_ledger asked ≡ allows ledger request
    allowed-same = elim is-told [
      | inl read ↦ conditions_are_read.allowed all plain_ledger ledger asked request all-joined (whole-one reading plain_ledger ledger joined) read
      | inr denied ↦ denied.plain_denied ∙ sym denied.denied
    ]

    pub blamed-same : blames_variable plain_ledger asked ≡ blames_variable ledger request
    blamed-same = elim is-told [
      | inl read ↦ conditions_are_read.blamed all plain_ledger ledger asked request all-joined (whole-one reading plain_ledger ledger joined) read
      | inr denied ↦ denied.blamed
    ]

    module _ (may : allows plain_ledger asked ≡ true) where
      pub is-read : IsReadRequest all asked request
      is-read = elim is-told [ inl read ↦ read | inr denied ↦ absurd (false≢true (sym denied.plain_denied ∙ may)) ]

      -- what is read behind it is an answer to it, or was read
      asked-split : (x name : named.Name) → IsReadAs (reading_after full plain_ledger ledger) x name → IsReadAs (reading_after reading plain_ledger ledger) x name ⊎ IsReadAs full x name
      asked-split x name is = by (x.place == length plain_ledger.answers) is
        where
          by : (here : Bool) → (if here then answers_at (length ledger.answers) x.index else full x) ≡ ScriptName name
              → ((if here then answers_at (length ledger.answers) x.index else reading x) ≡ ScriptName name) ⊎ IsReadAs full x name
          by true is = inl is
          by false is = inr is

      asked-keeps : KeepsReading (reading_after reading plain_ledger ledger) (reading_after full plain_ledger ledger)
      asked-keeps x name is = by (x.place == length plain_ledger.answers) is
        where
          by : (here : Bool) → (if here then answers_at (length ledger.answers) x.index else reading x) ≡ ScriptName name
              → (if here then answers_at (length ledger.answers) x.index else full x) ≡ ScriptName name
          by true is = is
          by false is = known.keeps x name is

      -- where it may be, one name more is known behind it
      pub known-asked : AreKnown naming (count + 1) (plain ++ asked ∷ []) (script ++ Ask request ∷ [])
      known-asked = record {
        calls = record {
          reading = reading_after reading plain_ledger ledger;
          joined = Asking reading plain script asked request known.calls.joined (narrowed all reading plain_ledger ledger joined narrow asked request is-read may)
              (asked_placed reading plain_ledger ledger joined request (sym allowed-same ∙ may));
          performed = λ pointer_width of. known.calls.performed pointer_width (widths-before (Ask request) pointer_width of);
        };
        full = reading_after full plain_ledger ledger;
        keeps = asked-keeps;
        only = only-later (asked ∷ []) (Ask request) (reading_after reading plain_ledger ledger) (reading_after full plain_ledger ledger) (keeps reading plain_ledger ledger joined) asked-split;
        reads = λ name inside. by name (cases_lt name.place count) inside;
      }
        where
          by : (name : Name) → (name.place < count) ⊎ (count ≤ name.place) → name.place < count + 1 → IsReadAs (reading_after full plain_ledger ledger) (naming name) (name_of name)
          by name (inl made) inside =
              let read = known.reads name made in
              read_before full (length plain_ledger.answers) (answers_at (length ledger.answers)) (naming name) (below (naming name) (name_of name) read) ∙ read
          by name (inr past) inside =
              let here : name.place ≡ count + 0 = omega (arith, past, inside) in
              let place : length plain_ledger.answers + 0 ≡ length plain_ledger.answers = omega arith in
              let other : length ledger.answers ≡ name.place = omega (arith, past, inside, as_many) in
              ap (reading_after full plain_ledger ledger) (later name 0 here ∙ ap (λ (n : ℕ). answer_of n name.answer) place)
              ∙ read_there full (length plain_ledger.answers) name.answer (answers_at (length ledger.answers))
              ∙ ap (λ (n : ℕ). ScriptName (answer_of n name.answer)) other

  -- EMITTING --------------------------------------------------------------------------------------------------------------

  -- what is emitted may be where it may be with the builder's names, and its names are read then
  emitted-with : (a b : Instruction named.Name named.Name) → IsReadInstruction wide a b → call_allowed plain_ledger (Emit [] a) ≡ call_allowed ledger (Emit [] b)
  emitted-with a b is = elim (emitted wide all plain_ledger ledger each a b is) [
    | inl read ↦ emission_same all plain_ledger ledger all-joined (whole-one reading plain_ledger ledger joined) [] [] a b read
    | inr denied ↦ denied.0 ∙ sym denied.1
  ]

  emitted-narrow : (a b : Instruction named.Name named.Name) → IsReadInstruction wide a b → call_allowed ledger (Emit [] b) ≡ true → IsReadInstruction reading a b
  emitted-narrow a b is may = elim (emitted wide all plain_ledger ledger each a b is) [
    | inl read ↦ narrowed-emission all reading plain_ledger ledger joined narrow a b read (emitted-with a b is ∙ may)
    | inr denied ↦ absurd (false≢true (sym denied.1 ∙ may))
  ]

  module _ (called : ImmediateCall) where
    abbrev x : named.Name
    x = naming (operand_in called)

    abbrev name : named.Name
    name = name_of (operand_in called)

    abbrev ty : «Type»
    ty = operand_type name_of ledger called

    abbrev emission : Instruction named.Name named.Name
    emission = emission_under name_of ledger called

    emission-wide : IsReadInstruction wide (emission_under naming plain_ledger called) emission
    emission-wide = emission-read wide naming plain_ledger ledger tables-read reads-wide called

    same-type : operand_type naming plain_ledger called ≡ ty
    same-type = type-same wide naming plain_ledger ledger tables-read reads-wide (operand_in called)

    pub emitted-same : call_allowed plain_ledger (Emit [] (emission_under naming plain_ledger called)) ≡ call_allowed ledger (Emit [] emission)
    emitted-same = emitted-with (emission_under naming plain_ledger called) emission emission-wide

    -- the operand's name was made
    operand-read : call_allowed ledger (Emit [] emission) ≡ true → IsReadAs reading x name
    operand-read may = (emitted-narrow (emission_under naming plain_ledger called) emission emission-wide may).operands.0

    module _ (may : call_allowed ledger (Emit [] emission) ≡ true) (added : Script)
        (is : added ≡ plain_calls_under naming plain_ledger (length plain_ledger.answers) called)
        (extended : Naming) (last : ℕ) (at_end : length plain_ledger.answers + length added ≡ suc last)
        (earlier : (name : Name) → name.place < count → extended name ≡ naming name)
        (results : (name : Name) → name.place ≡ count → extended name ≡ answer_of last (suc name.answer)) where
      abbrev code : List (Instruction named.Name named.Name)
      code = constant_instructions ty (constant_in called) (length plain_ledger.answers)

      abbrev plain_calls : Script
      plain_calls = constant_calls (plain_in called) ty (constant_in called) (length plain_ledger.answers) x

      same-calls : plain_calls ≡ added
      same-calls = sym (is ∙ ap (λ (t : «Type»). constant_calls (plain_in called) t (constant_in called) (length plain_ledger.answers) x) same-type)

      as-long : last ≡ length plain_ledger.answers + length code
      as-long =
          let calls : length added ≡ suc (length (map building code)) =
          ap length (sym same-calls) ∙ one_longer (map building code) (building (constant_last (plain_in called) ty (length plain_ledger.answers) x)) in
          let mapped : length (map building code) ≡ length code = length-map code building in
          omega (arith, at_end, calls, mapped)

      by : (n : Name) → (n.place < count) ⊎ (count ≤ n.place) → n.place < count + 1 → IsReadAs (reading_emitted full plain_ledger ledger code) (extended n) (name_of n)
      by n (inl made) inside =
          let read = known.reads n made in
          ap (reading_emitted full plain_ledger ledger code) (earlier n made)
          ∙ emitted_before AreGiven full plain_ledger ledger code (naming n) (below (naming n) (name_of n) read)
          ∙ read
      by n (inr past) inside =
          let here : n.place ≡ count = omega (arith, past, inside) in
          let other : length ledger.answers ≡ n.place = omega (arith, here, as_many) in
          ap (reading_emitted full plain_ledger ledger code) (results n here)
          ∙ emitted_result full plain_ledger ledger code last n.answer as-long
          ∙ ap (λ (k : ℕ). ScriptName (answer_of k n.answer)) other

      emitted-keeps : KeepsReading reading (reading_emitted reading plain_ledger ledger code)
      emitted-keeps y n read = emitted_before AreGiven reading plain_ledger ledger code y (joined.made y n read).0 ∙ read

      emitted-full : KeepsReading (reading_emitted reading plain_ledger ledger code) (reading_emitted full plain_ledger ledger code)
      emitted-full y n read = elim (emitted-alike AreGiven reading full plain_ledger ledger code y n read) [
        | inl new ↦ new
        | inr old ↦ emitted_before AreGiven full plain_ledger ledger code y (joined.made y n old).0 ∙ known.keeps y n old
      ]

      -- one name more is known behind its plain calls
      pub known-emitted : AreKnown extended (count + 1) (plain ++ added) (script ++ Emit [] emission ∷ [])
      known-emitted = subst (λ (calls : Script). AreKnown extended (count + 1) (plain ++ calls) (script ++ Emit [] emission ∷ [])) same-calls (record {
        calls = record {
          reading = reading_emitted reading plain_ledger ledger code;
          joined = (performed-by called).joined reading plain script ty x name known.calls.joined may;
          performed = λ pointer_width of.
              (performed-by called).performed pointer_width reading plain script ty x name known.calls.joined
              (known.calls.performed pointer_width (widths-before (Emit [] emission) pointer_width of)) (operand-read may) may;
        };
        full = reading_emitted full plain_ledger ledger code;
        keeps = emitted-full;
        only = only-later plain_calls (Emit [] emission) (reading_emitted reading plain_ledger ledger code) (reading_emitted full plain_ledger ledger code) emitted-keeps
            (emitted-alike AreGiven full reading plain_ledger ledger code);
        reads = λ n inside. by n (cases_lt n.place count) inside;
      })

  -- SEVERAL CALLS FOR ONE THAT ANSWERS NOTHING ---------------------------------------------------------------------------

  plain-many : length plain ≡ length plain_ledger.answers
  plain-many = calls_made plain

  -- what is read behind them was read before them
  module _ (added : Script) (call : ScriptCall) (none : call_answers ledger call ≡ []) (extended : Naming) (last : ℕ) (at_end : length plain + length added ≡ suc last) (given : List Answered)
      (at_given : slice_get (ledger_after (plain ++ added)).answers last ≡ Some given) (some : 0 < length added)
      (earlier : (name : Name) → name.place < count → extended name ≡ naming name)
      (behind : (name : Name) → name.place ≡ count → extended name ≡ answer_of last (length given + name.answer))
      (after : Reading → Reading) (before : (r : Reading) (x : named.Name) → x.place < length plain → after r x ≡ r x)
      (was-read : (r : Reading) (x name : named.Name) → IsReadAs (after r) x name → IsReadAs r x name)
      (are : AreJoinedCalls (after reading) (plain ++ added) (script ++ call ∷ []))
      (performed : (pointer_width : ℕ) → AllByRecursion (IsOfWidth pointer_width) (script ++ call ∷ []) → ArePerformed pointer_width (after reading) (plain ++ added) (script ++ call ∷ []) are) where
    -- a name behind all answers of the last call is read as the list's next one
    abbrev unanswered-at : ℕ → StandsFor
    unanswered-at index = if nat_lt index (length given) then Generated else ScriptName (answer_of (length ledger.answers) (index - length given))

    abbrev full-after : Reading
    full-after = reading_with (after full) last unanswered-at

    old-after : (x name : named.Name) → IsReadAs full x name → IsReadAs full-after x name
    old-after x name read =
        let made : x.place < length plain = let inside = below x name read in omega (arith, inside, plain-many) in
        read_before (after full) last unanswered-at x (omega (arith, made, at_end, some)) ∙ before full x made ∙ read

    after-keeps : KeepsReading (after reading) full-after
    after-keeps x name read = old-after x name (known.keeps x name (was-read reading x name read))

    read-after : KeepsReading reading (after reading)
    read-after x name read =
        let inside = (joined.made x name read).0 in
        before reading x (omega (arith, inside, plain-many)) ∙ read

    -- a name behind all answers is one of neither side
    behind-answers : (x name : named.Name) → x.place ≡ last → unanswered-at x.index ≡ ScriptName name → AreUnanswered (ledger_after (plain ++ added)) (ledger_of (script ++ call ∷ [])) x name
    behind-answers x name here is = by (cases_lt x.index (length given))
      where
        by : (x.index < length given) ⊎ (length given ≤ x.index) → AreUnanswered (ledger_after (plain ++ added)) (ledger_of (script ++ call ∷ [])) x name
        by (inl answered) =
            let wrong : Generated ≡ ScriptName name =
            sym (ap (λ (c : Bool). if c then Generated else ScriptName (answer_of (length ledger.answers) (x.index - length given))) (lt-ltb x.index (length given) answered)) ∙ is in
            absurd (let no_way : ⊥ = cc in no_way)
        by (inr past) =
            let same : answer_of (length ledger.answers) (x.index - length given) ≡ name =
            same_script (answer_of (length ledger.answers) (x.index - length given)) name
            (sym (ap (λ (c : Bool). if c then Generated else ScriptName (answer_of (length ledger.answers) (x.index - length given))) (le-ltb x.index (length given) past)) ∙ is) in
            let place : length ledger.answers ≡ name.place = ap (λ (n : named.Name). n.place) same in
            let on : ledger_of (script ++ call ∷ []) ≡ ledger_with_call ledger call = fold_on ledger_with_call empty_ledger script (call ∷ []) in
            record {
              plain_made =
                  let many = calls_made (plain ++ added) in
                  let both = length-append plain added in
                  omega (arith, here, many, both, at_end);
              made =
                  let longer = one_longer ledger.answers (call_answers ledger call) in
                  let counted : length (ledger_of (script ++ call ∷ [])).answers ≡ length (ledger.answers ++ call_answers ledger call ∷ []) = ap (λ (l : Ledger). length l.answers) on in
                  omega (arith, place, longer, counted);
              none_plain =
                  ap (λ (k : ℕ). option_and_then (λ (answers : List Answered). slice_get answers x.index) (slice_get (ledger_after (plain ++ added)).answers k)) here
                  ∙ ap (option_and_then (λ (answers : List Answered). slice_get answers x.index)) at_given ∙ slice_get_past given x.index past;
              none =
                  ap (λ (l : Ledger). answer_at l name) on
                  ∙ ap (λ (k : ℕ). option_and_then (λ (answers : List Answered). slice_get answers name.index) (slice_get (ledger.answers ++ call_answers ledger call ∷ []) k)) (sym place)
                  ∙ answers_last ledger.answers (call_answers ledger call) name.index ∙ ap (λ (answers : List Answered). slice_get answers name.index) none;
            }

    after-only : (x name : named.Name) → IsReadAs full-after x name → IsReadAs (after reading) x name ⊎ AreUnanswered (ledger_after (plain ++ added)) (ledger_of (script ++ call ∷ [])) x name
    after-only x name read = by (read_either (after full) last unanswered-at x (ScriptName name) read)
      where
        of_full : IsReadAs reading x name ⊎ AreUnanswered plain_ledger ledger x name → IsReadAs (after reading) x name ⊎ AreUnanswered (ledger_after (plain ++ added)) (ledger_of (script ++ call ∷ [])) x name
        of_full (inl old) = inl (read-after x name old)
        of_full (inr gone) = inr (still-unanswered plain added script call x name gone)

        by : ((x.place ≡ last) × (unanswered-at x.index ≡ ScriptName name)) ⊎ IsReadAs (after full) x name
            → IsReadAs (after reading) x name ⊎ AreUnanswered (ledger_after (plain ++ added)) (ledger_of (script ++ call ∷ [])) x name
        by (inl here) = inr (behind-answers x name here.0 here.1)
        by (inr old) = of_full (known.only x name (was-read full x name old))

    after-reads : (n : Name) → (n.place < count) ⊎ (count ≤ n.place) → n.place < count + 1 → IsReadAs full-after (extended n) (name_of n)
    after-reads n (inl made) inside = ap full-after (earlier n made) ∙ old-after (naming n) (name_of n) (known.reads n made)
    after-reads n (inr past) inside =
        let here : n.place ≡ count = omega (arith, past, inside) in
        let other : length ledger.answers ≡ n.place = omega (arith, here, as_many) in
        let index : length given + n.answer - length given ≡ n.answer = omega arith in
        ap full-after (behind n here)
        ∙ read_there (after full) last (length given + n.answer) unanswered-at
        ∙ ap (λ (c : Bool). if c then Generated else ScriptName (answer_of (length ledger.answers) (length given + n.answer - length given))) (le-ltb (length given + n.answer) (length given) (omega arith))
        ∙ ap (λ (k : ℕ). ScriptName (answer_of (length ledger.answers) k)) index
        ∙ ap (λ (k : ℕ). ScriptName (answer_of k n.answer)) other

    -- one name more is known behind them
    pub known-behind : AreKnown extended (count + 1) (plain ++ added) (script ++ call ∷ [])
    known-behind = record {
      calls = record { reading = after reading; joined = are; performed = performed };
      full = full-after;
      keeps = after-keeps;
      only = after-only;
      reads = λ n inside. after-reads n (cases_lt n.place count) inside;
    }

  -- SWITCHING -------------------------------------------------------------------------------------------------------------

  module _ (entries : List SwitchEntry) (value otherwise : Name) where
    abbrev plain-switch : Instruction named.Name named.Name
    plain-switch = switch_under naming plain_ledger entries value otherwise

    abbrev switch : Instruction named.Name named.Name
    switch = switch_under name_of ledger entries value otherwise

    switch-wide : IsReadInstruction wide plain-switch switch
    switch-wide = switch-read wide naming plain_ledger ledger tables-read reads-wide entries value otherwise

    pub switch-same : call_allowed plain_ledger (Emit [] plain-switch) ≡ call_allowed ledger (Emit [] switch)
    switch-same = emitted-with plain-switch switch switch-wide

    pub switch-refused : is_some (call_refusal plain_ledger (Emit [] plain-switch)) ≡ is_some (call_refusal ledger (Emit [] switch))
    switch-refused = ap (λ (ty : «Type»). is_some (option_map OfSwitch (keys_refusal ty (keys_of entries)))) switch-wide.controlling

    module _ (may : call_allowed ledger (Emit [] switch) ≡ true) (added : Script) (block from : named.Name) (ty : «Type») (keys : List ℕ) (edges : List (Edge named.Name named.Name)) (branches tables : ℕ)
        (is : plain-switch ≡ switching keys ty from edges) (current : plain_ledger.current ≡ Some block) (code : IsSwitchCode plain added block from ty keys edges branches tables)
        (extended : Naming) (last : ℕ) (at_end : length plain + length added ≡ suc last) (given : List Answered)
        (at_given : slice_get (ledger_after (plain ++ added)).answers last ≡ Some given) (some : 0 < length added)
        (earlier : (name : Name) → name.place < count → extended name ≡ naming name)
        (behind : (name : Name) → name.place ≡ count → extended name ≡ answer_of last (length given + name.answer)) where
      -- one name more is known behind its plain calls
      pub known-switched : AreKnown extended (count + 1) (plain ++ added) (script ++ Emit [] switch ∷ [])
      known-switched =
          known-behind added (Emit [] switch) refl extended last at_end given at_given some earlier behind (λ r. reading_across r (length plain) (length added))
          (λ r x made. across_before r (length plain) (length added) x made) (λ r x name read. across_read r (length plain) (length added) x name read)
          (Switching reading plain added script block from ty keys edges switch branches tables known.calls.joined current
          (emission_placed reading plain_ledger ledger joined [] switch may)
          (subst (λ (before : Instruction named.Name named.Name). IsReadInstruction reading before switch) is (emitted-narrow plain-switch switch switch-wide may)) code)
          (λ pointer_width of. known.calls.performed pointer_width (widths-before (Emit [] switch) pointer_width of))

  -- A LINE ----------------------------------------------------------------------------------------------------------------

  -- imports and code that stand for an emission
  module _ (pointer : «Type») (line : Line) (imports : List TableEntry) (entries : List GivenEntry) (names given_names : List named.Name) (imported : AllByRecursion IsImported entries)
      (stands : LineStands pointer line (λ reading. AllZip (IsReadAs reading) names given_names)) (read-names : AllZip (IsReadAs reading) names given_names)
      (may : IsTrue (call_allowed ledger (Emit imports line.emission)))
      (of-width : (pointer_width : ℕ) → IsOfWidth pointer_width (Emit imports line.emission) → bits_of pointer ≡ pointer_width) where
    abbrev line-place : ℕ
    line-place = place_importing plain imports

    abbrev line-code : List (Instruction named.Name named.Name)
    line-code = line.code line-place

    abbrev line-added : Script
    line-added = line_calls_with entries imports line-code (line.last line-place)

    abbrev imported-reading : Reading → Reading
    imported-reading r = reading_importing r plain_ledger imports

    abbrev behind-line : Reading → Reading
    behind-line r = reading_behind line.how (imported-reading r) (ledger_importing plain_ledger imports) (with_imports imports ledger) line-code

    line-place-is : line-place ≡ length plain_ledger.answers + length imports
    line-place-is = importing_longer plain_ledger imports

    line-before : (r : Reading) (x : named.Name) → x.place < length plain_ledger.answers → behind-line r x ≡ r x
    line-before r x made =
        emitted_before line.how (imported-reading r) (ledger_importing plain_ledger imports) (with_imports imports ledger) line-code x (let place = line-place-is in omega (arith, made, place))
        ∙ importing_before r plain_ledger imports x made

    abbrev line-are : AreJoinedCalls (behind-line reading) (plain ++ line-added) (script ++ Emit imports line.emission ∷ [])
    line-are = stands.joined imports entries reading plain script imported known.calls.joined may

    line-performed : (pointer_width : ℕ) → AllByRecursion (IsOfWidth pointer_width) (script ++ Emit imports line.emission ∷ [])
        → ArePerformed pointer_width (behind-line reading) (plain ++ line-added) (script ++ Emit imports line.emission ∷ []) line-are
    line-performed pointer_width of =
        let same : bits_of pointer ≡ pointer_width = of-width pointer_width (all-last (IsOfWidth pointer_width) script (Emit imports line.emission) of) in
        subst (λ (width : ℕ). ArePerformed width (behind-line reading) (plain ++ line-added) (script ++ Emit imports line.emission ∷ []) line-are) same
        (stands.performed imports entries reading plain script imported known.calls.joined
        (known.calls.performed (bits_of pointer) (widths-before (Emit imports line.emission) (bits_of pointer)
        (subst (λ (width : ℕ). AllByRecursion (IsOfWidth width) (script ++ Emit imports line.emission ∷ [])) (sym same) of))) read-names may)

    -- the last call's results are the emission's
    module _ (how : line.how ≡ AreGiven) (extended : Naming) (last : ℕ) (at_last : last ≡ line-place + length line-code)
        (earlier : (name : Name) → name.place < count → extended name ≡ naming name)
        (results : (name : Name) → name.place ≡ count → extended name ≡ answer_of last (suc name.answer)) where
      line-result : (r : Reading) (index : ℕ) → IsReadAs (behind-line r) (answer_of last (suc index)) (answer_of (length ledger.answers) index)
      line-result r index =
          subst (λ (so : LastResults). IsReadAs (reading_behind so (imported-reading r) (ledger_importing plain_ledger imports) (with_imports imports ledger) line-code) (answer_of last (suc index)) (answer_of (length ledger.answers) index))
          (sym how) (emitted_result (imported-reading r) (ledger_importing plain_ledger imports) (with_imports imports ledger) line-code last index at_last)

      line-alike : (first second : Reading) (x name : named.Name) → IsReadAs (behind-line first) x name → IsReadAs (behind-line second) x name ⊎ IsReadAs first x name
      line-alike first second x name is = elim (emitted-alike line.how (imported-reading first) (imported-reading second) (ledger_importing plain_ledger imports) (with_imports imports ledger) line-code x name is) [
        | inl new ↦ inl new
        | inr old ↦ inr (importing-read first plain_ledger imports x name old)
      ]

      line-reads : (n : Name) → (n.place < count) ⊎ (count ≤ n.place) → n.place < count + 1 → IsReadAs (behind-line full) (extended n) (name_of n)
      line-reads n (inl made) inside =
          let read = known.reads n made in
          ap (behind-line full) (earlier n made) ∙ line-before full (naming n) (below (naming n) (name_of n) read) ∙ read
      line-reads n (inr past) inside =
          let here : n.place ≡ count = omega (arith, past, inside) in
          let other : length ledger.answers ≡ n.place = omega (arith, here, as_many) in
          ap (behind-line full) (results n here) ∙ line-result full n.answer ∙ ap (λ (k : ℕ). ScriptName (answer_of k n.answer)) other

      pub known-answered : AreKnown extended (count + 1) (plain ++ line-added) (script ++ Emit imports line.emission ∷ [])
      known-answered = record {
        calls = record { reading = behind-line reading; joined = line-are; performed = line-performed };
        full = behind-line full;
        keeps = λ x name read. elim (line-alike reading full x name read) [
          | inl new ↦ new
          | inr old ↦ line-before full x (joined.made x name old).0 ∙ known.keeps x name old
        ];
        only = only-later line-added (Emit imports line.emission) (behind-line reading) (behind-line full)
            (λ x name read. line-before reading x (joined.made x name read).0 ∙ read) (line-alike full reading);
        reads = λ n inside. line-reads n (cases_lt n.place count) inside;
      }

    -- they are generated, and the emission answers nothing
    module _ (how : line.how ≡ AreGenerated) (none : emitted_types line.emission ≡ []) (extended : Naming) (last : ℕ) (at_end : length plain + length line-added ≡ suc last) (given : List Answered)
        (at_given : slice_get (ledger_after (plain ++ line-added)).answers last ≡ Some given) (some : 0 < length line-added)
        (earlier : (name : Name) → name.place < count → extended name ≡ naming name)
        (behind : (name : Name) → name.place ≡ count → extended name ≡ answer_of last (length given + name.answer)) where
      line-read : (r : Reading) (x name : named.Name) → IsReadAs (behind-line r) x name → IsReadAs r x name
      line-read r x name is =
          importing-read r plain_ledger imports x name
          (generated-read (imported-reading r) (ledger_importing plain_ledger imports) (with_imports imports ledger) line-code x name
          (subst (λ (so : LastResults). IsReadAs (reading_behind so (imported-reading r) (ledger_importing plain_ledger imports) (with_imports imports ledger) line-code) x name) how is))

      pub known-unanswered : AreKnown extended (count + 1) (plain ++ line-added) (script ++ Emit imports line.emission ∷ [])
      known-unanswered =
          known-behind line-added (Emit imports line.emission) (ap (map AValue) none) extended last at_end given at_given some earlier behind behind-line
          (λ r x made. line-before r x (omega (arith, made, plain-many))) line-read line-are line-performed

  -- HELPERS ---------------------------------------------------------------------------------------------------------------

  module _ (config : TargetFrontendConfig) (called : MemoryCall) where
    abbrev operation : ByteOperation
    operation = operation_in called

    abbrev operands : List named.Name
    operands = map naming (operands_in called)

    abbrev own-operands : List named.Name
    own-operands = map name_of (operands_in called)

    helper-wide : IsReadInstruction wide (emission_of config operation operands) (emission_of config operation own-operands)
    helper-wide = helper-read wide naming plain_ledger ledger tables-read reads-wide config operation (operands_in called)

    pub helper-same : call_allowed plain_ledger (helper_under config naming plain_ledger called) ≡ call_allowed ledger (helper_under config name_of ledger called)
    helper-same = emitted-with (emission_of config operation operands) (emission_of config operation own-operands) helper-wide

    module _ (moves : moves_nothing operation ≡ false) (may : call_allowed ledger (helper_under config name_of ledger called) ≡ true) (filling : ℤ) (fills : FillsWith operation filling)
        (sized : IsSized operation) (lines : HelpersAreLines) (added : Script) (asked : added ≡ helper_calls config operation filling plain_ledger.tables (length plain_ledger.answers) operands)
        (extended : Naming) (last : ℕ) (at_end : length plain + length added ≡ suc last) (given : List Answered)
        (at_given : slice_get (ledger_after (plain ++ added)).answers last ≡ Some given)
        (earlier : (name : Name) → name.place < count → extended name ≡ naming name)
        (results : (name : Name) → name.place ≡ count → extended name ≡ answer_of last (first_answer (how_of operation) given + name.answer)) where
      abbrev of-line : IsLineOf config operation filling ledger.tables operands own-operands
      of-line = line-of lines config called filling ledger.tables naming name_of (may-made config name_of ledger called moves may) sized moves fills

      abbrev imports : List TableEntry
      imports = imports_for config operation ledger.tables

      read-operands : AllZip (IsReadAs reading) operands own-operands
      read-operands = (emitted-narrow (emission_of config operation operands) (emission_of config operation own-operands) helper-wide may).operands

      may-line : IsTrue (call_allowed ledger (Emit imports of-line.line.emission))
      may-line = ap (λ (e : Instruction named.Name named.Name). call_allowed ledger (Emit imports e)) of-line.emission ∙ may

      width-line : (pointer_width : ℕ) → IsOfWidth pointer_width (Emit imports of-line.line.emission) → bits_of (pointer_type_of config.pointer_width) ≡ pointer_width
      width-line pointer_width is = subst (λ (e : Instruction named.Name named.Name). IsOfWidth pointer_width (Emit imports e)) of-line.emission is

      abbrev line-script : Script
      line-script = line-added (pointer_type_of config.pointer_width) of-line.line imports of-line.given operands own-operands of-line.imported of-line.stands read-operands may-line width-line

      same-place : place_importing plain imports ≡ length imports + length plain_ledger.answers
      same-place = let longer = importing_longer plain_ledger imports in omega (arith, longer)

      script-is : line-script ≡ added
      script-is = sym (
          asked ∙ ap (λ (tables : TableLists). helper_calls config operation filling tables (length plain_ledger.answers) operands) tables-read.tables
          ∙ of-line.requests (length plain_ledger.answers)
          ∙ ap (λ (place : ℕ). line_calls_with of-line.given imports (of-line.line.code place) (of-line.line.last place)) (sym same-place))

      line-end : length plain + length line-script ≡ suc last
      line-end = ap (λ (s : Script). length plain + length s) script-is ∙ at_end

      line-long : length line-script ≡ length imports + suc (length (of-line.line.code (place_importing plain imports)))
      line-long =
          let code : List (Instruction named.Name named.Name) = of-line.line.code (place_importing plain imports) in
          let both = length-append (importing imports) (map (building_with of-line.given) code ++ building_with of-line.given (of-line.line.last (place_importing plain imports)) ∷ []) in
          let first = length-map imports MakeEntry in
          let mapped = length-map code (building_with of-line.given) in
          let rest = one_longer (map (building_with of-line.given) code) (building_with of-line.given (of-line.line.last (place_importing plain imports))) in
          omega (arith, both, first, mapped, rest)

      by-how : (how : LastResults) → how_of operation ≡ how → ((name : Name) → name.place ≡ count → extended name ≡ answer_of last (first_answer how given + name.answer))
          → AreKnown extended (count + 1) (plain ++ line-script) (script ++ Emit imports of-line.line.emission ∷ [])
      by-how AreGiven is answers =
          known-answered (pointer_type_of config.pointer_width) of-line.line imports of-line.given operands own-operands of-line.imported of-line.stands read-operands may-line width-line (of-line.how ∙ is) extended last
          (let place = line-place-is (pointer_type_of config.pointer_width) of-line.line imports of-line.given operands own-operands of-line.imported of-line.stands read-operands may-line width-line in omega (arith, line-end, line-long, place, plain-many))
          earlier (λ name here. answers name here ∙ ap (answer_of last) (one-on name.answer))
        where
          one-on : (n : ℕ) → 1 + n ≡ suc n
          one-on n = omega arith
      by-how AreGenerated is answers =
          known-unanswered (pointer_type_of config.pointer_width) of-line.line imports of-line.given operands own-operands of-line.imported of-line.stands read-operands may-line width-line (of-line.how ∙ is)
          (subst (λ (how : LastResults). emitting.AreAnswered how (of-line.line.last 0) of-line.line.emission) (of-line.how ∙ is) (of-line.answered 0)) extended last line-end given
          (subst (λ (s : Script). slice_get (ledger_after (plain ++ s)).answers last ≡ Some given) (sym script-is) at_given) (omega (arith, line-long)) earlier answers

      -- one name more is known behind its plain calls
      pub known-helped : AreKnown extended (count + 1) (plain ++ added) (script ++ helper_under config name_of ledger called ∷ [])
      known-helped =
          subst (λ (s : Script). AreKnown extended (count + 1) (plain ++ s) (script ++ helper_under config name_of ledger called ∷ [])) script-is
          (subst (λ (e : Instruction named.Name named.Name). AreKnown extended (count + 1) (plain ++ line-script) (script ++ Emit imports e ∷ [])) of-line.emission
          (by-how (how_of operation) refl results))
