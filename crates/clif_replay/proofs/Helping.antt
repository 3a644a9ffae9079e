-- When a memory helper of a script may be made, and what is known once it was made or wasn't.
use Rattle.std.proofs.Common.{◌≡◌, ◌<◌, ◌+◌, ◌-◌, ◌^◌, ◌&&◌, ◌||◌, ℕ, ℤ, pos, suc, true, false, Bool, List, [], ◌∷◌, ◌++◌, length, map, refl, ap, sym, ◌∙◌, subst, arith, inl, inr, append_assoc}
use Rattle.std.specs.Prelude.{◌==◌, ◌/◌, min, nat_le, fold, if◌then◌else◌, is_some, slice_get, IsTrue, Option, Some, Result, Ok, Err}
use Rattle.std.specs.List.{AllByRecursion, AllZip, list_all}
use Rattle.std.proofs.lemmas.Bool.{false≢true, lt-ltb}
use Rattle.std.proofs.lemmas.List.{append-nil, length-append, length-map}
use Rattle.clif_types.specs.Signature.{SignatureShape}
use Rattle.clif_types.specs.declared.error.BuildError.{BuildError}
use Rattle.clif_types.specs.declared.error.BuildError.TheVariants as build
use Rattle.clif_types.specs.declared.libcall.LibCall.TheVariants.{Memcpy, Memmove, Memset, Memcmp}
use Rattle.clif_types.specs.declared.target.PointerWidth.{PointerWidth}
use Rattle.clif_types.specs.declared.target.TargetFrontendConfig.{TargetFrontendConfig}
use Rattle.clif_types.specs.declared.types.«Type».{«Type»}
use Rattle.clif_tables.specs.Entries.{TableEntry}
use Rattle.clif_tables.specs.Lists.{TableLists}
use Rattle.clif_ir.specs.Body.{Body, value_at}
use Rattle.clif_instructions.specs.declared.block_call.BlockCall.{BlockCall}
use Rattle.clif_access_plans.specs.Plans.{fits_pointer, move_plan, type_of_bytes}
use Rattle.clif_access_plans.specs.declared.moving.Accesses.{Accesses}
use Rattle.clif_access_plans.specs.declared.moving.MovePlan.TheVariants as move
use Rattle.clif_meaning.specs.Acceptance.{allows}
use Rattle.clif_meaning.specs.Acceptance as acceptance
use Rattle.clif_meaning.specs.ByteOperation.{ByteOperation, CallLibrary, CompareBytes, Copy, Fill, access_size, greatest_power, is_by_accesses}
use Rattle.clif_meaning.specs.Instruction.{Bytes, Call, Instruction, Operation}
use Rattle.clif_meaning.specs.Ledger.{AValue, AnInstruction, Answered, Ledger, answers_to, has_value, ledger_with}
use Rattle.clif_meaning.specs.Name as meaning
use Rattle.clif_meaning.specs.Request.{AnsweredCall, GivenEntry, Imported, Request, Script, ServedBy, TriedBy, script_of}
use Rattle.clif_meaning.specs.Sizes.{Table, Functions, Instructions, MakesAtMost, Signatures, Values, entries_in, made_by_script}
use Rattle.clif_meaning.proofs.SameTypes.{type_is}
use Rattle.clif_expansion.specs.Emission.{AreAnswered, AreGenerated, AreGiven, LastResults, building_with, given_to, importing}
use Rattle.clif_expansion.specs.JoinedCalls.{IsImported}
use Rattle.clif_expansion.specs.ScriptCall.{Ask, call_allowed, emitted_types, is_byte, takes_byte}
use Rattle.clif_helper_calls.specs.LibraryCodes.{i8, i32}
use Rattle.clif_memory_helpers.specs.HelperLines.{HelpersAreLines, IsLineOf, emission_of, how_of, imports_for}
use Rattle.clif_memory_helpers.specs.Helpers.{FillsWith, IsOperand, MayHelp, helper_calls, may_make, moved_by, operand_types}
use Rattle.clif_memory_helpers.specs.Lines.{HelperIsFull}
use Rattle.clif_memory_helpers.specs.Sizes.{helper_makes}
use Rattle.clif_memory_helpers.proofs.HelperSizes.{helper_few}
use Rattle.clif_builder.specs.declared.builder.FunctionBuilder.{FunctionBuilder}
use Rattle.clif_builder.specs.Builder.{SameLoans}
use Rattle.clif_builder.specs.Ledger.{NamesValue, ledger_of, tables_of_calls}
use Rattle.clif_builder.specs.LedgerLaws.{NotesAddNothing}
use Rattle.clif_builder.specs.StandsFor.{StandsFor}
use Rattle.clif_builder.proofs.LedgerLists.{and-then-some}
use Rattle.clif_calls.specs.declared.call.Name.{Name}
use Rattle.clif_calls.specs.declared.memory.MemoryCall.{MemoryCall}
use Rattle.clif_calls.specs.declared.memory.MemoryCall.TheVariants as memory
use Rattle.clif_resolution.specs.Answers.{all_values, value_of}
use Rattle.clif_resolution.specs.Conditions.{is_open}
use Rattle.clif_resolution.specs.Errors.{call_error_of}
use Rattle.clif_resolution.specs.declared.answers.Answer.{Answer}
use Rattle.clif_resolution.specs.declared.answers.Answer.TheVariants as answer
use Rattle.clif_resolution.specs.declared.condition.Condition.{Condition}
use Rattle.clif_resolution.specs.declared.answers.CallError.{CallError}
use Rattle.clif_resolution.specs.declared.answers.CallError.TheVariants as error
use Rattle.clif_resolution.proofs.Options.{get-below}
use Rattle.clif_replay.specs.declared.make_memory.Operands.{Operands}
use Rattle.clif_replay.specs.Emits.{AreOperands, CallsHelper, IsHelped, IsReadyBehindHelper, MakesMemory, MakesMoved, values_in}
use Rattle.clif_replay.specs.Helpers.{IsSized, can_help, first_answer, helper_under, may_be_second, memory_under, moves_nothing, nothing_moved, operands_in, operation_in}
use Rattle.clif_replay.specs.Limits.{MayFill, is_counted}
use Rattle.clif_replay.specs.Ready.{IsAnswered, IsReady, IsReadyAfter, KeepsTables, no_answer}
use Rattle.clif_replay.specs.Requests.{Naming}
use Rattle.clif_replay.proofs.Conditions.{has-current, open-same, value-type-same, values-same}
use Rattle.clif_replay.proofs.Emitted.{extended, extended-earlier, extended-here, last-answered, length-script, ready-leaving, result-answered, two-numbers, values-no-edge}
use Rattle.clif_replay.proofs.HelperLines.{byte_fits, emitted, helper-allowed, line-of}
use Rattle.clif_replay.proofs.Lasting.{GivesNoTable, LeavesTables}
use Rattle.clif_replay.proofs.Making.{judged-from, loans-stay, made-answer, made-misuse, told-refused}
use Rattle.clif_replay.proofs.Notes.{note-ready}
use Rattle.clif_replay.proofs.ReadyLaws.{value-exists, value-found}

-- TRUTH -------------------------------------------------------------------------------------------------------------------

and-true : (a : Bool) → (a && true) ≡ a
and-true true = refl
and-true false = refl

and-false : (a : Bool) → (a && false) ≡ false
and-false true = refl
and-false false = refl

values-denied : (takes opens byte may : Bool) → emitted takes opens false byte may ≡ false
values-denied true true byte may = refl
values-denied true false byte may = refl
values-denied false opens byte may = refl

can-denied : (takes opens byte may : Bool) → (opens && takes && may) ≡ false → emitted takes opens true byte may ≡ false
can-denied true true true true is = absurd (false≢true (sym is))
can-denied true true true false is = refl
can-denied true true false may is = refl
can-denied true false byte may is = refl
can-denied false opens byte may is = refl

in-order : (takes opens may : Bool) → emitted takes opens true true may ≡ (opens && takes && may)
in-order true true may = refl
in-order true false may = refl
in-order false true may = refl
in-order false false may = refl

-- its three parts
can-parts : (opens takes may : Bool) → (opens && takes && may) ≡ true → (opens ≡ true) × (takes ≡ true) × (may ≡ true)
can-parts true true true is = (refl, refl, refl)
can-parts true true false is = absurd (false≢true is)
can-parts true false may is = absurd (false≢true is)
can-parts false takes may is = absurd (false≢true is)

-- OPERANDS ----------------------------------------------------------------------------------------------------------------

-- where names lead to values, each of them does
all-found : (f : Body) (answers : List Answer) (names : List Name) (values : List ℕ) → map (value_of f answers) names ≡ map Some values → all_values f answers names ≡ true
all-found f answers [] values found = refl
all-found f answers (name ∷ names) [] found = let no_way : ⊥ = cc in absurd no_way
all-found f answers (name ∷ names) (value ∷ values) found =
    let here : value_of f answers name ≡ Some value = cc in
    let rest : map (value_of f answers) names ≡ map Some values = cc in
    ap (λ (o : Option ℕ). is_some o && all_values f answers names) here ∙ all-found f answers names values rest

named-all : {R : Type 0} {naming : Naming} {declared : SignatureShape} (calls : List AnsweredCall) (b : FunctionBuilder R) (answers : List Answer) → IsReady naming declared calls b answers
    → (names : List Name) (values : List ℕ) → map (value_of b.func.now answers) names ≡ map Some values → AllZip (NamesValue calls) (map naming names) values
named-all calls b answers ready [] [] found = tt
named-all calls b answers ready [] (value ∷ values) found = let no_way : ⊥ = cc in absurd no_way
named-all calls b answers ready (name ∷ names) [] found = let no_way : ⊥ = cc in absurd no_way
named-all calls b answers ready (name ∷ names) (value ∷ values) found =
    let here : value_of b.func.now answers name ≡ Some value = cc in
    let rest : map (value_of b.func.now answers) names ≡ map Some values = cc in
    (value-found calls b answers ready name value here, named-all calls b answers ready names values rest)

module _ {R : Type 0} {naming : Naming} {declared : SignatureShape} (calls : List AnsweredCall) (b : FunctionBuilder R) (answers : List Answer) (ready : IsReady naming declared calls b answers) where
  exists : (name : Name) (value : ℕ) → value_of b.func.now answers name ≡ Some value → value < length b.func.now.values
  exists name value found = value-exists calls b answers ready name value found

  -- the ledger's test of the second operand
  takes-same : (called : MemoryCall) (values : Operands) → AreOperands b.func.now answers called values
      → takes_byte (ledger_of calls) (Bytes (operation_in called)) (map naming (operands_in called)) ≡ may_be_second b (operation_in called) values.second
  takes-same (memory.CallLibrary Memset first second size) values found =
      let here : value_of b.func.now answers second ≡ Some values.second = cc in
      ap is_byte (value-type-same calls b answers ready second values.second here)
  takes-same (memory.CallLibrary Memcpy first second size) values found = refl
  takes-same (memory.CallLibrary Memmove first second size) values found = refl
  takes-same (memory.CallLibrary Memcmp first second size) values found = refl
  takes-same (memory.Copy dest src size dest_align src_align no_overlap flags) values found = refl
  takes-same (memory.Fill buffer ch size align flags) values found = refl
  takes-same (memory.Compare condition left right size left_align right_align flags) values found = refl

  -- the builder's condition on operands
  pub operands-there : (called : MemoryCall) (values : Operands) → AreOperands b.func.now answers called values → may_be_second b (operation_in called) values.second ≡ true
      → AllZip (IsOperand b) (values_in called values) (operand_types (operation_in called))
  operands-there (memory.CallLibrary Memset first second size) values found takes =
      let one : value_of b.func.now answers first ≡ Some values.first = cc in
      let two : value_of b.func.now answers second ≡ Some values.second = cc in
      let three : value_of b.func.now answers size ≡ Some values.third = cc in
      (exists first values.first one, ((exists second values.second two, type_is (value_at b.func.now values.second).ty i8 takes), (exists size values.third three, tt)))
  operands-there (memory.CallLibrary Memcpy first second size) values found takes =
      let one : value_of b.func.now answers first ≡ Some values.first = cc in
      let two : value_of b.func.now answers second ≡ Some values.second = cc in
      let three : value_of b.func.now answers size ≡ Some values.third = cc in
      (exists first values.first one, (exists second values.second two, (exists size values.third three, tt)))
  operands-there (memory.CallLibrary Memmove first second size) values found takes =
      let one : value_of b.func.now answers first ≡ Some values.first = cc in
      let two : value_of b.func.now answers second ≡ Some values.second = cc in
      let three : value_of b.func.now answers size ≡ Some values.third = cc in
      (exists first values.first one, (exists second values.second two, (exists size values.third three, tt)))
  operands-there (memory.CallLibrary Memcmp first second size) values found takes =
      let one : value_of b.func.now answers first ≡ Some values.first = cc in
      let two : value_of b.func.now answers second ≡ Some values.second = cc in
      let three : value_of b.func.now answers size ≡ Some values.third = cc in
      (exists first values.first one, (exists second values.second two, (exists size values.third three, tt)))
  operands-there (memory.Copy dest src size dest_align src_align no_overlap flags) values found takes =
      let one : value_of b.func.now answers dest ≡ Some values.first = cc in
      let two : value_of b.func.now answers src ≡ Some values.second = cc in
      (exists dest values.first one, (exists src values.second two, tt))
  operands-there (memory.Fill buffer ch size align flags) values found takes =
      let one : value_of b.func.now answers buffer ≡ Some values.first = cc in
      (exists buffer values.first one, tt)
  operands-there (memory.Compare condition left right size left_align right_align flags) values found takes =
      let one : value_of b.func.now answers left ≡ Some values.first = cc in
      let two : value_of b.func.now answers right ≡ Some values.second = cc in
      (exists left values.first one, (exists right values.second two, tt))

-- THE CONDITION -----------------------------------------------------------------------------------------------------------

-- of no bytes only the block matters
nothing-can : {R : Type 0} (b : FunctionBuilder R) (w : PointerWidth) (operation : ByteOperation) (second : ℕ) → moves_nothing operation ≡ true → can_help b w operation second ≡ is_open b
nothing-can b w (Copy copy) second moves =
    ap (λ (none : Bool). is_open b && true && (none || (nat_le (min copy.target_alignment copy.source_alignment) (greatest_power copy.size) && fits_pointer w copy.size))) moves
    ∙ and-true (is_open b && true) ∙ and-true (is_open b)
nothing-can b w (Fill fill) second moves =
    ap (λ (none : Bool). is_open b && true && (none || (nat_le fill.alignment (greatest_power fill.size) && fits_pointer w fill.size))) moves
    ∙ and-true (is_open b && true) ∙ and-true (is_open b)
nothing-can b w (CompareBytes compared) second moves = absurd (false≢true moves)
nothing-can b w (CallLibrary callee) second moves = absurd (false≢true moves)

sized-byte : (operation : ByteOperation) → IsSized operation → byte_fits operation ≡ true
sized-byte (Copy copy) sized = refl
sized-byte (Fill fill) sized = lt-ltb fill.byte 256 sized.1
sized-byte (CompareBytes compared) sized = refl
sized-byte (CallLibrary callee) sized = refl

module _ {R : Type 0} (config : TargetFrontendConfig) (called : MemoryCall) (b : FunctionBuilder R) (answers : List Answer) where
  -- the helper may be made in each ledger with which the builder agrees, or in none
  abbrev pub HelperJudged : Bool → Type 0
  HelperJudged allowed =
      (naming : Naming) (declared : SignatureShape) (calls : List AnsweredCall) → IsReady naming declared calls b answers
      → call_allowed (ledger_of calls) (memory_under config naming (ledger_of calls) called) ≡ allowed

  -- whether it moves some bytes or none
  by-moves : (naming : Naming) (ledger : Ledger) (allowed : Bool) → (moves_nothing (operation_in called) ≡ true → allows ledger (nothing_moved naming called) ≡ allowed)
      → (moves_nothing (operation_in called) ≡ false → call_allowed ledger (helper_under config naming ledger called) ≡ allowed)
      → call_allowed ledger (memory_under config naming ledger called) ≡ allowed
  by-moves naming ledger allowed none some = by (moves_nothing (operation_in called)) refl
    where
      by : (nothing : Bool) → moves_nothing (operation_in called) ≡ nothing
          → call_allowed ledger (if nothing then Ask (nothing_moved naming called) else helper_under config naming ledger called) ≡ allowed
      by true is = none is
      by false is = some is

  -- an operand is missing
  pub missing-judged : all_values b.func.now answers (operands_in called) ≡ false → HelperJudged false
  missing-judged missing naming declared calls ready =
      let ledger : Ledger = ledger_of calls in
      let gone = values-same calls b answers ready (operands_in called) ∙ missing in
      let opens : Bool = acceptance.is_open ledger ledger.current in
      let takes : Bool = takes_byte ledger (Bytes (operation_in called)) (map naming (operands_in called)) in
      by-moves naming ledger false
      (λ moves. ap (λ (v : Bool). opens && v) gone ∙ and-false opens)
      (λ moves.
      helper-allowed config naming ledger called moves
      ∙ ap (λ (v : Bool). emitted takes opens v (byte_fits (operation_in called)) (may_make config.pointer_width (operation_in called))) gone
      ∙ values-denied takes opens (byte_fits (operation_in called)) (may_make config.pointer_width (operation_in called)))

  module _ (values : Operands) (found : AreOperands b.func.now answers called values) where
    -- the condition, by what the builder has
    module _ {naming : Naming} {declared : SignatureShape} (calls : List AnsweredCall) (ready : IsReady naming declared calls b answers) where
      there : list_all (has_value (ledger_of calls)) (map naming (operands_in called)) ≡ true
      there = values-same calls b answers ready (operands_in called) ∙ all-found b.func.now answers (operands_in called) (values_in called values) found

      nothing-is : allows (ledger_of calls) (nothing_moved naming called) ≡ is_open b
      nothing-is =
          let ledger : Ledger = ledger_of calls in
          ap (λ (v : Bool). acceptance.is_open ledger ledger.current && v) there ∙ and-true (acceptance.is_open ledger ledger.current) ∙ open-same calls b answers ready

      some-is : moves_nothing (operation_in called) ≡ false → call_allowed (ledger_of calls) (helper_under config naming (ledger_of calls) called)
          ≡ emitted (may_be_second b (operation_in called) values.second) (is_open b) true (byte_fits (operation_in called)) (may_make config.pointer_width (operation_in called))
      some-is moves =
          let ledger : Ledger = ledger_of calls in
          let byte : Bool = byte_fits (operation_in called) in
          let may : Bool = may_make config.pointer_width (operation_in called) in
          let names = map naming (operands_in called) in
          helper-allowed config naming ledger called moves
          ∙ ap (λ (t : Bool). emitted t (acceptance.is_open ledger ledger.current) (list_all (has_value ledger) names) byte may) (takes-same calls b answers ready called values found)
          ∙ ap (λ (o : Bool). emitted (may_be_second b (operation_in called) values.second) o (list_all (has_value ledger) names) byte may) (open-same calls b answers ready)
          ∙ ap (λ (v : Bool). emitted (may_be_second b (operation_in called) values.second) (is_open b) v byte may) there

    pub denied-judged : can_help b config.pointer_width (operation_in called) values.second ≡ false → HelperJudged false
    denied-judged denied naming declared calls ready =
        by-moves naming (ledger_of calls) false
        (λ moves. nothing-is calls ready ∙ sym (nothing-can b config.pointer_width (operation_in called) values.second moves) ∙ denied)
        (λ moves.
        some-is calls ready moves
        ∙ can-denied (may_be_second b (operation_in called) values.second) (is_open b) (byte_fits (operation_in called)) (may_make config.pointer_width (operation_in called)) denied)

    pub allowed-judged : can_help b config.pointer_width (operation_in called) values.second ≡ true → IsSized (operation_in called) → HelperJudged true
    allowed-judged can sized naming declared calls ready =
        let takes : Bool = may_be_second b (operation_in called) values.second in
        let may : Bool = may_make config.pointer_width (operation_in called) in
        by-moves naming (ledger_of calls) true
        (λ moves. nothing-is calls ready ∙ sym (nothing-can b config.pointer_width (operation_in called) values.second moves) ∙ can)
        (λ moves.
        some-is calls ready moves ∙ ap (λ (byte : Bool). emitted takes (is_open b) true byte may) (sized-byte (operation_in called) sized) ∙ in-order takes (is_open b) may ∙ can)

    pub may-help : {naming : Naming} {declared : SignatureShape} (calls : List AnsweredCall) → IsReady naming declared calls b answers
        → can_help b config.pointer_width (operation_in called) values.second ≡ true → MayHelp b config (operation_in called) (values_in called values)
    may-help calls ready can =
        let parts = can-parts (is_open b) (may_be_second b (operation_in called) values.second) (may_make config.pointer_width (operation_in called)) can in
        record {
          current = has-current calls b answers ready parts.0;
          operands_exist = operands-there calls b answers ready called values found parts.1;
          condition = parts.2;
        }

-- WHAT IS KNOWN AFTERWARDS --------------------------------------------------------------------------------------------------

-- which errors are `Full`
misuse-full : {why : Condition} → ◌≡◌ {A = Result Answer CallError} (Err (error.Misuse why)) (Err error.Full) → ⊥
misuse-full same = cc

told-full : (e : BuildError) → ◌≡◌ {A = Result Answer CallError} (Err (call_error_of e)) (Err error.Full) → e ≡ build.Full
told-full build.Memory same = let no_way : ⊥ = cc in absurd no_way
told-full build.Full same = refl
told-full build.Failed same = let no_way : ⊥ = cc in absurd no_way

module _ (config : TargetFrontendConfig) (called : MemoryCall) where
  -- the condition of one that moves nothing, and of one that moves something
  nothing-judged : {R : Type 0} (b : FunctionBuilder R) (answers : List Answer) (allowed : Bool) → moves_nothing (operation_in called) ≡ true → HelperJudged config called b answers allowed
      → (naming : Naming) (declared : SignatureShape) (calls : List AnsweredCall) → IsReady naming declared calls b answers → allows (ledger_of calls) (nothing_moved naming called) ≡ allowed
  nothing-judged b answers allowed moves judges naming declared calls ready =
      sym (ap (λ (none : Bool). call_allowed (ledger_of calls) (if none then Ask (nothing_moved naming called) else helper_under config naming (ledger_of calls) called)) moves)
      ∙ judges naming declared calls ready

  some-judged : {R : Type 0} (b : FunctionBuilder R) (answers : List Answer) (allowed : Bool) → moves_nothing (operation_in called) ≡ false → HelperJudged config called b answers allowed
      → (naming : Naming) (declared : SignatureShape) (calls : List AnsweredCall) → IsReady naming declared calls b answers
      → call_allowed (ledger_of calls) (helper_under config naming (ledger_of calls) called) ≡ allowed
  some-judged b answers allowed moves judges naming declared calls ready =
      sym (ap (λ (none : Bool). call_allowed (ledger_of calls) (if none then Ask (nothing_moved naming called) else helper_under config naming (ledger_of calls) called)) moves)
      ∙ judges naming declared calls ready

  -- it may not be made
  pub helper-misused : {R : Type 0} (why : Condition) (b : FunctionBuilder R) (answers : List Answer) → HelperJudged config called b answers false → MakesMemory config called b b answers (Err (error.Misuse why))
  helper-misused why b answers judges = by (moves_nothing (operation_in called)) refl
    where
      no-refusal : (other : Condition) → ◌≡◌ {A = Result Answer CallError} (Err (error.Misuse why)) (Err (error.Refused other)) → ⊥
      no-refusal other same = cc

      by : (none : Bool) → moves_nothing (operation_in called) ≡ none → MakesMoved none config called b b answers (Err (error.Misuse why))
      by true moves = made-misuse b answers (nothing-judged b answers false moves judges)
      by false moves = record {
        full = λ told. absurd (misuse-full told);
        loans = loans-stay b;
        name = tt;
        ready = λ naming declared calls ready. tt;
        judged = λ naming declared calls ready. (some-judged b answers false moves judges naming declared calls ready, refl);
        sound = tt;
        refused = no-refusal;
        variables = tt;
      }

  -- a call of the builder failed
  module _ {R : Type 0} (old new : FunctionBuilder R) (answers : List Answer) (e : BuildError) (loans : SameLoans old new) (not-failed : e ≡ build.Failed → ⊥)
      (fills : e ≡ build.Full → MayFill (helper_makes config (operation_in called)) old.func.now)
      (fills-nothing : moves_nothing (operation_in called) ≡ true → e ≡ build.Full → MayFill (λ table. 0) old.func.now)
      (judges : HelperJudged config called old answers true) where
    pub helper-failed : MakesMemory config called old new answers (Err (call_error_of e))
    helper-failed = by (moves_nothing (operation_in called)) refl
      where
        by : (none : Bool) → moves_nothing (operation_in called) ≡ none → MakesMoved none config called old new answers (Err (call_error_of e))
        by true moves = record {
          loans = loans;
          name = tt;
          ready = λ naming declared calls ready. tt;
          judged = λ naming declared calls ready. judged-from _ _ e (λ same. nothing-judged old answers true moves judges naming declared calls ready) not-failed;
          sound = tt;
          refused = λ why same. absurd (not-failed (told-refused e why same));
          full = λ same. fills-nothing moves (told-full e same);
          variables = tt;
        }
        by false moves = record {
          loans = loans;
          name = tt;
          ready = λ naming declared calls ready. tt;
          judged = λ naming declared calls ready. judged-from _ _ e (λ same. some-judged old answers true moves judges naming declared calls ready) not-failed;
          sound = tt;
          refused = λ why same. not-failed (told-refused e why same);
          full = λ same. fills (told-full e same);
          variables = tt;
        }

-- WHAT THE BUILDER WAS ASKED ------------------------------------------------------------------------------------------------

-- the answer of a helper, of these calls, the last of which stands at this place
abbrev pub IsHelpAnswer : LastResults → List AnsweredCall → (last : ℕ) → Answer → Type 0
IsHelpAnswer AreGenerated all last a = a ≡ no_answer
IsHelpAnswer AreGiven all last a = (value : ℕ) × (a ≡ answer.Values value 1) × NamesValue all (meaning.answer_of last 1) value

pub record HelpStands {R : Type 0} (how : LastResults) (declared : SignatureShape) (calls : List AnsweredCall) (plain : Script) (a : Answer) (new : FunctionBuilder R) : Type 0 where
  pub added : List AnsweredCall
  pub asked : script_of added ≡ plain
  pub stands : StandsFor declared (calls ++ added) new
  pub answer : IsHelpAnswer how (calls ++ added) (length calls + length plain - 1) a

-- A helper was called, and succeeded.
pub record IsHelpMade {R : Type 0} (how : LastResults) (config : TargetFrontendConfig) (operation : ByteOperation) (values : List ℕ) (old new : FunctionBuilder R) (a : Answer) : Type 0 where
  pub loans : SameLoans old new
  pub name : new.func.now.name ≡ old.func.now.name
  pub keeps : KeepsTables old new
  pub sound : new.failed ≡ false
  pub variables : new.ctx.now.parts.variables ≡ old.ctx.now.parts.variables
  pub filling : ℤ
  pub fills : FillsWith operation filling
  pub stands : (declared : SignatureShape) (calls : List AnsweredCall) (names : List meaning.Name) → StandsFor declared calls old → AllZip (NamesValue calls) names values
      → HelpStands how declared calls (helper_calls config operation filling old.func.now.tables (length calls) names) a new

-- A helper was called, and a call of the builder failed. Where a table was full, the function has at most what its calls make more.
pub record HelpFails {R : Type 0} (config : TargetFrontendConfig) (operation : ByteOperation) (values : List ℕ) (old new : FunctionBuilder R) (e : BuildError) : Type 0 where
  pub loans : SameLoans old new
  pub failed : e ≡ build.Failed → IsTrue old.failed
  pub filling : ℤ
  pub most : e ≡ build.Full → (names : List meaning.Name) → length names ≡ length values
      → MakesAtMost (made_by_script (helper_calls config operation filling old.func.now.tables 0 names)) old.func.now new.func.now
  pub full : e ≡ build.Full → HelperIsFull new

-- a full table that a helper needs may be filled by what it makes at most
fills-by : {R : Type 0} (most : Table → ℕ) (old new : FunctionBuilder R) → MakesAtMost most old.func.now new.func.now → HelperIsFull new → MayFill most old.func.now
fills-by most old new few full = by full
  where
    at : (table : Table) → is_counted table ≡ true → entries_in new.func.now table ≡ 2 ^ 32 - 1 → MayFill most old.func.now
    at table counted is = let more = few table in (table, counted, omega (arith, more, is))

    by : HelperIsFull new → MayFill most old.func.now
    by (inl (inl insts)) = at Instructions refl insts
    by (inl (inr values)) = at Values refl values
    by (inr (inl signatures)) = at Signatures refl signatures
    by (inr (inr functions)) = at Functions refl functions

full-no-memory : {A : Type 0} (other : BuildError) → other ≡ build.Full → ◌≡◌ {A = Result A BuildError} (Err other) (Err build.Memory) → ⊥
full-no-memory build.Full is same = cc
full-no-memory build.Memory is same = cc
full-no-memory build.Failed is same = cc

given-fills : (operation : ByteOperation) → how_of operation ≡ AreGiven → FillsWith operation (pos 0)
given-fills (Copy copy) is = let no_way : ⊥ = cc in absurd no_way
given-fills (Fill fill) is = let no_way : ⊥ = cc in absurd no_way
given-fills (CompareBytes compared) is = tt
given-fills (CallLibrary callee) is = tt

module _ {R : Type 0} (config : TargetFrontendConfig) (operation : ByteOperation) (values : List ℕ) (old new : FunctionBuilder R) where
  pub help-made : (how : LastResults) (a : Answer) → how_of operation ≡ how → IsHelped how config operation values old new (Ok a) → IsHelpMade how config operation values old new a
  help-made AreGenerated a so (Ok done, is, helps) = record {
    loans = helps.made.line.call.loans;
    name = helps.made.line.grows.3;
    keeps = (helps.made.line.grows.6, helps.made.line.grows.8);
    sound = helps.made.line.call.fails;
    variables = helps.made.line.variables;
    filling = helps.filling;
    fills = helps.fills;
    stands = λ declared calls names stands named.
        let on = helps.made.stands declared calls names stands named in
        record { added = on.added; asked = on.asked; stands = on.stands; answer = nothing };
  }
    where
      nothing : a ≡ no_answer
      nothing = cc
  help-made AreGenerated a so (Err e, is, helps) = let no_way : ⊥ = cc in absurd no_way
  help-made AreGiven a so (Ok value, is, answers) = record {
    loans = answers.made.line.call.loans;
    name = answers.made.line.grows.3;
    keeps = (answers.made.line.grows.6, answers.made.line.grows.8);
    sound = answers.made.line.call.fails;
    variables = answers.made.line.variables;
    filling = pos 0;
    fills = given-fills operation so;
    stands = λ declared calls names stands named.
        let on = answers.made.stands declared calls names stands named in
        record { added = on.added; asked = on.asked; stands = on.stands; answer = (value, this, on.named.0) };
  }
    where
      this : a ≡ answer.Values value 1
      this = cc
  help-made AreGiven a so (Err e, is, answers) = let no_way : ⊥ = cc in absurd no_way

  pub help-failed : (how : LastResults) (e : BuildError) → IsHelped how config operation values old new (Err e) → HelpFails config operation values old new e
  help-failed AreGenerated e (Ok done, is, helps) = let no_way : ⊥ = cc in absurd no_way
  help-failed AreGenerated e (Err other, is, helps) = record {
    loans = helps.made.line.call.loans;
    failed = λ same. helps.made.line.call.failed.0 (ap Err (sym this ∙ same));
    filling = helps.filling;
    most = λ same names long. helps.made.most 0 names long (full-no-memory other (sym this ∙ same));
    full = λ same. helps.made.line.full (ap Err (sym this ∙ same));
  }
    where
      this : e ≡ other
      this = cc
  help-failed AreGiven e (Ok value, is, answers) = let no_way : ⊥ = cc in absurd no_way
  help-failed AreGiven e (Err other, is, answers) = record {
    loans = answers.made.line.call.loans;
    failed = λ same. answers.made.line.call.failed.0 (ap Err (sym this ∙ same));
    filling = pos 0;
    most = λ same names long. answers.made.most 0 names long (full-no-memory other (sym this ∙ same));
    full = λ same. answers.made.line.full (ap Err (sym this ∙ same));
  }
    where
      this : e ≡ other
      this = cc

-- READINESS ---------------------------------------------------------------------------------------------------------------

-- Helpers of the tables of a function and of those of its calls are the same.
same-tables : (config : TargetFrontendConfig) (operation : ByteOperation) (filling : ℤ) (tables : TableLists) (place : ℕ) (names : List meaning.Name)
    → helper_calls config operation filling (tables_of_calls tables) place names ≡ helper_calls config operation filling tables place names
same-tables config (Copy copy) filling tables place names = refl
same-tables config (Fill fill) filling tables place names = refl
same-tables config (CompareBytes compared) filling tables place names = refl
same-tables config (CallLibrary Memcpy) filling tables place names = refl
same-tables config (CallLibrary Memmove) filling tables place names = refl
same-tables config (CallLibrary Memset) filling tables place names = refl
same-tables config (CallLibrary Memcmp) filling tables place names = refl

-- imports and instructions that are given imports leave jump tables and exception tables
given-none : (given : List GivenEntry) → AllByRecursion IsImported given → GivesNoTable given
given-none [] all = tt
given-none (Imported entry ∷ given) all = given-none given all.1
given-none (ServedBy table ∷ given) all = absurd all.0
given-none (TriedBy table ∷ given) all = absurd all.0

given-leaves : (given : List GivenEntry) (operation : Operation) → AllByRecursion IsImported given → GivesNoTable (given_to given operation)
given-leaves [] operation all = tt
given-leaves (entry ∷ given) (Call name signature) all = given-none (entry ∷ given) all
given-leaves (entry ∷ given) _ all = tt

line-leaves : (given : List GivenEntry) (imports : List TableEntry) (code : List (Instruction meaning.Name meaning.Name)) (last : Instruction meaning.Name meaning.Name) → AllByRecursion IsImported given
    → AllByRecursion LeavesTables (importing imports ++ (map (building_with given) code ++ building_with given last ∷ []))
line-leaves given (entry ∷ imports) code last all = (tt, line-leaves given imports code last all)
line-leaves given [] (instruction ∷ code) last all = (given-leaves given instruction.operation all, line-leaves given [] code last all)
line-leaves given [] [] last all = (given-leaves given last.operation all, tt)

-- one that answers has one result
one-result : (config : TargetFrontendConfig) (operation : ByteOperation) (names : List meaning.Name) → how_of operation ≡ AreGiven
    → (ty : «Type») × (emitted_types (emission_of config operation names) ≡ ty ∷ [])
one-result config (Copy copy) names is = let no_way : ⊥ = cc in absurd no_way
one-result config (Fill fill) names is = let no_way : ⊥ = cc in absurd no_way
one-result config (CompareBytes compared) names is = (i8, refl)
one-result config (CallLibrary Memcpy) names is = let no_way : ⊥ = cc in absurd no_way
one-result config (CallLibrary Memmove) names is = let no_way : ⊥ = cc in absurd no_way
one-result config (CallLibrary Memset) names is = let no_way : ⊥ = cc in absurd no_way
one-result config (CallLibrary Memcmp) names is = (i32, refl)

nothing-no-edge : (made : BlockCall) → answer.Nothing ≡ answer.Edge made → ⊥
nothing-no-edge made same = cc

-- the last call's answers are its number and results of these types
abbrev results-of : List «Type» → List Answered
results-of types = AnInstruction ∷ map AValue types

module _ {R : Type 0} (lines : HelpersAreLines) (config : TargetFrontendConfig) (called : MemoryCall) (moves : moves_nothing (operation_in called) ≡ false) (sized : IsSized (operation_in called))
    (may : may_make config.pointer_width (operation_in called) ≡ true) (old new : FunctionBuilder R) (answers : List Answer) (values : Operands) (found : AreOperands old.func.now answers called values)
    (a : Answer) where
  module _ (how : LastResults) (so : how_of (operation_in called) ≡ how) (made : IsHelpMade how config (operation_in called) (values_in called values) old new a)
      {naming : Naming} {declared : SignatureShape} (calls : List AnsweredCall) (ready : IsReady naming declared calls old answers) where
    abbrev names : List meaning.Name
    names = map naming (operands_in called)

    abbrev tables : TableLists
    tables = (ledger_of calls).tables

    abbrev on : HelpStands how declared calls (helper_calls config (operation_in called) made.filling old.func.now.tables (length calls) names) a new
    on = made.stands declared calls names ready.stands (named-all calls old answers ready (operands_in called) (values_in called values) found)

    abbrev added : List AnsweredCall
    added = on.added

    abbrev all : List AnsweredCall
    all = calls ++ added

    abbrev of-line : IsLineOf config (operation_in called) made.filling tables names names
    of-line = line-of lines config called made.filling tables naming naming may sized moves made.fills

    abbrev imports : List TableEntry
    imports = imports_for config (operation_in called) tables

    abbrev place : ℕ
    place = length imports + length calls

    abbrev code : List (Instruction meaning.Name meaning.Name)
    code = of-line.line.code place

    abbrev last-instruction : Instruction meaning.Name meaning.Name
    last-instruction = of-line.line.last place

    abbrev front : Script
    front = importing imports ++ map (building_with of-line.given) code

    abbrev request : Request
    request = building_with of-line.given last-instruction

    tables-are : helper_calls config (operation_in called) made.filling old.func.now.tables (length calls) names ≡ helper_calls config (operation_in called) made.filling tables (length calls) names
    tables-are =
        sym (same-tables config (operation_in called) made.filling old.func.now.tables (length calls) names)
        ∙ ap (λ (lists : TableLists). helper_calls config (operation_in called) made.filling lists (length calls) names) (sym ready.stands.ledger.tables)

    asked : script_of added ≡ helper_calls config (operation_in called) made.filling tables (length calls) names
    asked = on.asked ∙ tables-are

    asked-line : script_of added ≡ importing imports ++ (map (building_with of-line.given) code ++ request ∷ [])
    asked-line = asked ∙ of-line.requests (length calls)

    asked-last : script_of added ≡ front ++ request ∷ []
    asked-last = asked-line ∙ sym (append_assoc (importing imports) (map (building_with of-line.given) code) (request ∷ []))

    abbrev last : ℕ
    last = length front + length calls

    long : length added ≡ suc (length front)
    long =
        let script = length-script added in
        let same : length (script_of added) ≡ length (front ++ request ∷ []) = ap (λ (s : Script). length s) asked-last in
        let both = length-append front (request ∷ []) in
        omega (arith, script, same, both)

    ending : length all ≡ suc last
    ending = let both = length-append calls added in omega (arith, both, long)

    abbrev given : List Answered
    given = answers_to (fold ledger_with (ledger_of calls) front) request

    at-given : slice_get (ledger_of all).answers last ≡ Some given
    at-given = last-answered calls added front request ready.stands.ledger.places asked-last

    leaves : AllByRecursion LeavesTables (script_of added)
    leaves = subst (AllByRecursion LeavesTables) (sym asked-line) (line-leaves of-line.given imports code last-instruction of-line.imported)

    -- where the last call stands
    last-is : length calls + length (helper_calls config (operation_in called) made.filling old.func.now.tables (length calls) names) - 1 ≡ last
    last-is =
        let same : length (script_of added) ≡ length (helper_calls config (operation_in called) made.filling old.func.now.tables (length calls) names) = ap (λ (s : Script). length s) on.asked in
        let script = length-script added in
        omega (arith, same, script, long)

    abbrev known-as : ℕ → Naming
    known-as shift = extended naming (length answers) last shift (length all)

    -- the answer, and that it is no edge
    newest : (so-what : LastResults) → how ≡ so-what → IsHelpAnswer so-what all last a
        → IsAnswered (known-as (first_answer so-what given)) all (length answers) a × ((edge : BlockCall) → a ≡ answer.Edge edge → ⊥)
    newest AreGenerated is nothing =
        let call = get-below all last (omega (arith, ending)) in (
          record {
            other = last;
            call = call.0;
            answered = given;
            at_call = call.1;
            at_answered = at-given;
            leads = inr (inr (λ name here. extended-here naming (length answers) last (length given) (length all) name here, nothing));
          },
          λ edge same. nothing-no-edge edge (sym nothing ∙ same),
        )
    newest AreGiven is (value, same, number) = (
      subst (λ (x : Answer). IsAnswered (known-as 1) all (length answers) x) (sym same) (result-answered naming answers value 1 last at_call.0 given at_call.1 at-given (types, numbers.0, types-are, numbers.1, refl)),
      λ edge is_edge. values-no-edge value 1 edge (sym same ∙ is_edge),
    )
      where
        result : (ty : «Type») × (emitted_types (emission_of config (operation_in called) names) ≡ ty ∷ [])
        result = one-result config (operation_in called) names (so ∙ is)

        types : List «Type»
        types = result.0 ∷ []

        types-are : given ≡ AnInstruction ∷ map AValue types
        types-are =
            ap results-of (subst (λ (h : LastResults). AreAnswered h last-instruction of-line.line.emission) (of-line.how ∙ so ∙ is) (of-line.answered place)
            ∙ ap emitted_types of-line.emission ∙ result.1)

        at_call : (call : AnsweredCall) × (slice_get all last ≡ Some call) × (slice_get call.numbers 1 ≡ Some value)
        at_call = and-then-some (λ (one : AnsweredCall). slice_get one.numbers 1) (slice_get all last) value number.number

        numbers : (inst : ℕ) × (at_call.0.numbers ≡ inst ∷ value ∷ [])
        numbers = two-numbers at_call.0.numbers value
            ((on.stands.ledger.answers last at_call.0 given at_call.1 at-given).count ∙ ap (λ (xs : List Answered). length xs) types-are) at_call.2

    answer-at-last : IsHelpAnswer how all last a
    answer-at-last = subst (λ (n : ℕ). IsHelpAnswer how all n a) last-is on.answer

    abbrev new-answer : IsAnswered (known-as (first_answer how given)) all (length answers) a × ((edge : BlockCall) → a ≡ answer.Edge edge → ⊥)
    new-answer = newest how refl answer-at-last

    behind : IsReadyBehindHelper config called naming declared calls new answers a
    behind = record {
      filling = made.filling;
      fills = made.fills;
      sized = sized;
      lines = lines;
      added = added;
      asked = asked;
      last = last;
      at_end = ending;
      given = given;
      at_given = at-given;
      extended = known-as (first_answer how given);
      earlier = λ name less. extended-earlier naming (length answers) last (first_answer how given) (length all) name less;
      results = λ name here.
          extended-here naming (length answers) last (first_answer how given) (length all) name here
          ∙ ap (λ (h : LastResults). meaning.answer_of last (first_answer h given + name.answer)) (sym so);
      ready = ready-leaving calls added old new answers a last (first_answer how given) ready on.stands leaves made.keeps new-answer.0 new-answer.1;
    }

-- MADE --------------------------------------------------------------------------------------------------------------------

-- no calls are asked for no bytes
moved-none : (size : ℕ) (pieces : Accesses → Script) (called : Script) → (size == 0) ≡ true → moved_by (move_plan size) pieces called ≡ []
moved-none size pieces called moves =
    ap (λ (none : Bool). moved_by (if none then move.Nothing
    else (if is_by_accesses size then move.Inline (record { ty = type_of_bytes (access_size size); bytes = access_size size; count = size / access_size size }) else move.LibraryCall)) pieces called) moves

no-calls : (config : TargetFrontendConfig) (operation : ByteOperation) (filling : ℤ) (lists : TableLists) (first : ℕ) (rest : List meaning.Name) → moves_nothing operation ≡ true
    → (helper_calls config operation filling lists first rest ≡ []) × (how_of operation ≡ AreGenerated)
no-calls config (Copy copy) filling lists first (a ∷ b ∷ []) moves = (moved-none copy.size _ _ moves, refl)
no-calls config (Copy copy) filling lists first [] moves = (refl, refl)
no-calls config (Copy copy) filling lists first (a ∷ []) moves = (refl, refl)
no-calls config (Copy copy) filling lists first (a ∷ b ∷ c ∷ rest) moves = (refl, refl)
no-calls config (Fill fill) filling lists first (a ∷ []) moves = (moved-none fill.size _ _ moves, refl)
no-calls config (Fill fill) filling lists first [] moves = (refl, refl)
no-calls config (Fill fill) filling lists first (a ∷ b ∷ rest) moves = (refl, refl)
no-calls config (CompareBytes compared) filling lists first rest moves = absurd (false≢true moves)
no-calls config (CallLibrary callee) filling lists first rest moves = absurd (false≢true moves)

nothing-added : {R : Type 0} (declared : SignatureShape) (calls added : List AnsweredCall) (b : FunctionBuilder R) → script_of added ≡ [] → StandsFor declared (calls ++ added) b → StandsFor declared calls b
nothing-added declared calls [] b asked stands = subst (λ (list : List AnsweredCall). StandsFor declared list b) (append-nil calls) stands
nothing-added declared calls (call ∷ added) b asked stands = let no_way : ⊥ = cc in absurd no_way

-- it was made
pub helper-made : {R : Type 0} → HelpersAreLines → NotesAddNothing → (config : TargetFrontendConfig) (called : MemoryCall) (old new : FunctionBuilder R) (answers : List Answer) (values : Operands)
    → AreOperands old.func.now answers called values → can_help old config.pointer_width (operation_in called) values.second ≡ true → IsSized (operation_in called) → (a : Answer)
    → CallsHelper config (operation_in called) (values_in called values) old new (Ok a) → MakesMemory config called old new answers (Ok a)
helper-made lines notes config called old new answers values found can sized a helped = by (moves_nothing (operation_in called)) refl
  where
    judges : HelperJudged config called old answers true
    judges = allowed-judged config called old answers values found can sized

    made : IsHelpMade (how_of (operation_in called)) config (operation_in called) (values_in called values) old new a
    made = help-made config (operation_in called) (values_in called values) old new (how_of (operation_in called)) a refl helped

    no-error : (e : CallError) → ◌≡◌ {A = Result Answer CallError} (Ok a) (Err e) → ⊥
    no-error e same = cc

    by : (none : Bool) → moves_nothing (operation_in called) ≡ none → MakesMoved none config called old new answers (Ok a)
    by true moves =
        made-answer old new answers a made.loans made.name made.sound made.variables (nothing-judged config called old answers true moves judges)
        (λ naming declared calls ready.
        let on = made.stands declared calls (map naming (operands_in called)) ready.stands (named-all calls old answers ready (operands_in called) (values_in called values) found) in
        let none = no-calls config (operation_in called) made.filling old.func.now.tables (length calls) (map naming (operands_in called)) moves in
        let nothing : a ≡ no_answer = subst (λ (how : LastResults). IsHelpAnswer how (calls ++ on.added)
        (length calls + length (helper_calls config (operation_in called) made.filling old.func.now.tables (length calls) (map naming (operands_in called))) - 1) a) none.1 on.answer in
        subst (λ (x : Answer). IsReadyAfter naming declared calls (nothing_moved naming called) new answers x) (sym nothing)
        (note-ready notes calls old new answers true (map naming (operands_in called)) ready (nothing-added declared calls on.added new (on.asked ∙ none.0) on.stands) made.keeps))
    by false moves = record {
      full = λ told. absurd (no-error error.Full told);
      loans = made.loans;
      name = made.name;
      ready = λ naming declared calls ready.
          behind lines config called moves sized (can-parts (is_open old) (may_be_second old (operation_in called) values.second) (may_make config.pointer_width (operation_in called)) can).2
          old new answers values found a (how_of (operation_in called)) refl made calls ready;
      judged = some-judged config called old answers true moves judges;
      sound = made.sound;
      refused = λ why. no-error (error.Refused why);
      variables = made.variables;
    }

-- it wasn't, since a call of the builder failed
pub refused-by : {R : Type 0} (config : TargetFrontendConfig) (called : MemoryCall) (old new : FunctionBuilder R) (answers : List Answer) (values : Operands) (e : BuildError) → old.failed ≡ false
    → CallsHelper config (operation_in called) (values_in called values) old new (Err e) → HelperJudged config called old answers true → MakesMemory config called old new answers (Err (call_error_of e))
refused-by config called old new answers values e sound helped judges =
    let failed = help-failed config (operation_in called) (values_in called values) old new (how_of (operation_in called)) e helped in
    let names : List meaning.Name = map (λ value. meaning.answer_of value 0) (values_in called values) in
    let script : Script = helper_calls config (operation_in called) failed.filling old.func.now.tables 0 names in
    let long : length names ≡ length (values_in called values) = length-map (values_in called values) (λ value. meaning.answer_of value 0) in
    helper-failed config called old new answers e failed.loans (λ same. false≢true (sym sound ∙ failed.failed same))
    (λ same.
    fills-by (helper_makes config (operation_in called)) old new
    (λ table.
    let few = helper_few config (operation_in called) failed.filling old.func.now.tables 0 names table in
    let more = failed.most same names long table in
    omega (arith, few, more)) (failed.full same))
    (λ moves same.
    fills-by (λ table. 0) old new
    (λ table.
    let none : made_by_script script table ≡ 0 = ap (λ (s : Script). made_by_script s table) (no-calls config (operation_in called) failed.filling old.func.now.tables 0 names moves).0 in
    let more = failed.most same names long table in
    omega (arith, none, more)) (failed.full same))
    judges
